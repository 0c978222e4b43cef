-- The object of a torrent, reported.
use Rattle.std.proofs.Common.{◌≡◌, ◌∙◌, refl, sym, ap, subst, inl, inr, ◌⊎◌, ℕ, ◌≤◌, ◌<◌, List, ◌++◌, length, drop}
use Rattle.std.proofs.Common.{Result, Ok, Err}
use Rattle.std.proofs.lemmas.Bool.{cond-true, cond-false, le-leb, lt-leb}
use Rattle.tor_bencode.specs.Data.{Data}
use Rattle.tor_bencode.specs.RefView.{view}
use Rattle.tor_bencode.specs.declared.item_ref.ItemRef.{ItemRef}
use Rattle.tor_check.specs.declared.refusal.Refusal.{Refusal}
use Rattle.tor_check.specs.declared.refusal.Refusal.TheVariants.{Memory}
use Rattle.tor_c.specs.Reports.{IsToldOf, check_text, of_text}
use Rattle.tor_c.specs.declared.TheConstants.{ACCEPTED, NO_ROOM}
use Rattle.tor_c.specs.declared.outcome.PloverOutcome.{PloverOutcome}
use Rattle.tor_c.specs.steps.Told.{IsObjectReport, object_of}
use Rattle.serde_json.specs.Data.{object}
use Rattle.serde_json.specs.Written.{compact_text}
use Rattle.tor_report.specs.Records.{check_members}
use Rattle.tor_report.specs.Told.{Describes}
use Rattle.tor_report.specs.declared.judged.Judged.{Judged}
use Rattle.tor_spec.specs.valid.Conditions.{IsTorrentOf}
use Rattle.tor_spec.specs.valid.View.{View}

pub has_room : (text room room' : List ℕ) (outcome : PloverOutcome) (size : ℕ) → size ≡ length text
    → size ≤ length room → outcome ≡ of_text size → room' ≡ text ++ drop (length text) room
    → IsObjectReport text room room' outcome ACCEPTED
has_room text room room' outcome size is fits beside written =
    let test = le-leb (length text) (length room) (subst (λ count. count ≤ length room) is fits) in (
      Ok text,
      inl refl,
      record {
        answered = sym (cond-true _ ACCEPTED NO_ROOM test);
        beside = beside ∙ ap of_text is;
        written = written ∙ sym (cond-true _ _ _ test);
      },
    )

pub lacks_room : (text room room' : List ℕ) (outcome : PloverOutcome) (size : ℕ) → size ≡ length text
    → length room < size → outcome ≡ of_text size → room' ≡ room → IsObjectReport text room room' outcome NO_ROOM
lacks_room text room room' outcome size is long beside same =
    let test = lt-leb (length text) (length room) (subst (λ count. length room < count) is long) in (
      Ok text,
      inl refl,
      record {
        answered = sym (cond-false _ ACCEPTED NO_ROOM test);
        beside = beside ∙ ap of_text is;
        written = same ∙ sym (cond-false _ _ _ test);
      },
    )

-- what is told of a torrent that was judged, with the tree that was read of it
pub object_told : (bytes : List ℕ) (root : ItemRef) (judged : Judged) → Describes bytes judged.torrent judged.hashes
    → ((tree : Data) → IsTorrentOf tree bytes → view root ≡ tree) → (told : Result (List ℕ) Refusal)
    → ((told ≡ Ok (object_of root judged)) ⊎ (told ≡ Err Memory)) → IsToldOf check_text bytes told
unfolding object_of
object_told bytes root judged (tree, described, torrent) is told (inl text) =
    subst (IsToldOf check_text bytes) (sym text) (
      tree,
      judged.hashes,
      torrent,
      ap (λ (read : Data). compact_text (object (check_members read judged.torrent judged.hashes)))
          (is tree torrent.torrent)
          ∙ ap (λ (seen : View). compact_text (object (check_members tree seen judged.hashes))) described,
    )
object_told bytes root judged (tree, described, torrent) is told (inr refused) =
    subst (IsToldOf check_text bytes) (sym refused) tt
