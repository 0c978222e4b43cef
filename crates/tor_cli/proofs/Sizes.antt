-- No torrent is empty, and no plan.
use Rattle.std.proofs.Common.{◌<◌, ℕ, List, codes, length, subst, sym, arith, true≢false}
use Rattle.std.specs.Prelude.{IsSome}
use Rattle.tor_meta.specs.Contents.{IsMadeOfSome}
use Rattle.tor_spec.specs.Hashes.{HasInfo}
use Rattle.tor_meta.specs.PlanText.{PlanText, plan_bytes}
use Rattle.tor_bencode.specs.Data.{Data, dictionary, integer, list, string}
use Rattle.tor_bencode.specs.Find.{value_of}
use Rattle.tor_bencode.specs.Spelling.{spelling}
use Rattle.tor_spec.specs.Facts.{File}
use Rattle.tor_spec.specs.Metainfo.{metainfo}
use Rattle.tor_spec.specs.Settings.{Settings}
use Rattle.tor_tree.specs.declared.attr.Attr.{Attr}

pub has_bytes : (settings : Settings) (files : List File) → 0 < length (metainfo settings files)
unfolding metainfo
has_bytes settings files = omega arith

pub some_have_bytes : (settings : Settings) (files : List (List (List ℕ) × Attr)) (torrent : List ℕ)
    → IsMadeOfSome settings files torrent → 0 < length torrent
some_have_bytes settings files torrent (sorted, placed, rising, made) =
    subst (λ t. 0 < length t) (sym made) (has_bytes settings sorted)

pub plan_has_bytes : (text : PlanText) → 0 < length (plan_bytes text)
unfolding plan_bytes
plan_has_bytes text = omega arith

dictionary_has_bytes : (root : Data) → IsSome (value_of (codes "info") root) → 0 < length (spelling root)
dictionary_has_bytes (integer n) some = absurd (true≢false (sym some))
dictionary_has_bytes (string bytes) some = absurd (true≢false (sym some))
dictionary_has_bytes (list items) some = absurd (true≢false (sym some))
dictionary_has_bytes (dictionary pairs) some = omega arith

pub info_has_bytes : (torrent : List ℕ) → HasInfo torrent → 0 < length torrent
info_has_bytes torrent (root, lawful, spelled, some) =
    subst (λ t. 0 < length t) (sym spelled) (dictionary_has_bytes root some)
