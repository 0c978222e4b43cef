-- each field is that of the text
use Rattle.std.proofs.Common.{◌≡◌, ◌∙◌, ℕ, pos, Bool, true, false, List, Option, None, Some, ap, codes, is_some}
use Rattle.std.proofs.Common.{refl, subst, sym}
use Rattle.std.specs.Option.{option_copied}
use Rattle.std.specs.Prelude.{IsSomeAnd}
use Rattle.tor_bencode.specs.Data.{Data, integer}
use Rattle.tor_bencode.specs.Find.{value_of}
use Rattle.tor_meta.proofs.PlanLawful.{value_at}
use Rattle.tor_spec.specs.Dictionary.{when}
use Rattle.tor_spec.specs.Settings.{Settings}
use Rattle.tor_tree.specs.Name.{name_fault}
use Rattle.tor_tree.specs.Properties.{as_integer, as_string}
use Rattle.tor_tree.specs.declared.kinds.Kind.{Kind}
use Rattle.tor_meta.proofs.plans.plan_reading.head_in.Goals as goal

set_there : (b : Bool) (d : Data) → is_some (when b d) ≡ b
set_there true d = refl
set_there false d = refl

-- one that is there
the_one : (found : Option (List ℕ)) (name wanted : List ℕ) → found ≡ Some name → IsSomeAnd found (λ one. one ≡ wanted)
    → name ≡ wanted
the_one None name wanted is has = absurd has
the_one (Some one) name wanted is has = let same : one ≡ name = cc in sym same ∙ has

same_settings : (s : Settings) (kind : Kind) (single : Bool) (name : List ℕ) (piece_length : ℕ)
    (announce : Option (List ℕ)) (is_private tail : Bool) → kind ≡ s.kind → single ≡ s.single → name ≡ s.name
    → piece_length ≡ s.piece_length → announce ≡ s.announce → is_private ≡ s.is_private → tail ≡ s.tail
    → (let made : Settings = record {
      kind = kind;
      single = single;
      name = name;
      piece_length = piece_length;
      announce = announce;
      is_private = is_private;
      tail = tail;
    } in made) ≡ s
same_settings s kind single name piece_length announce is_private tail a b c d e f g = rw (a, b, c, d, e, f, g) refl

pub returns-clause-all : goal.returns-clause-all
returns-clause-all c = λ text is same.
    let s = text.settings in
    let at = λ (key : List ℕ). ap (value_of key) same ∙ value_at key text in
    let a = c.kind_in.ensures text same in
    let b = c.number_at.ensures.all s.piece_length is.piece_length (ap as_integer (at (codes "piece length"))) in
    let d = c.text_at.ensures ∙ ap as_string (at (codes "name")) in
    let e = c.in-Some-Some-Some.is-0 in
    let f = c.in-Some-Some-Some.is-1 in
    let g = c.in-Some-Some-Some.is-2 in
    let kind : c.in-Some-Some-Some.kind ≡ s.kind = cc in
    let piece_length : c.in-Some-Some-Some.piece_length ≡ s.piece_length = cc in
    let copied : Some c.in-Some-Some-Some.name.now ≡ Some s.name = sym (ap option_copied g) ∙ d in
    let bytes : c.in-Some-Some-Some.name.now ≡ s.name = cc in
    let name : c.in-Some.name ≡ s.name =
    the_one c.in_ok-name.field-0 c.in-Some.name s.name c.in-Some.is
    (subst (λ (n : List ℕ). IsSomeAnd c.in_ok-name.field-0 (λ (one : List ℕ). one ≡ n)) bytes
    (c.in_ok-name.ensures.all (ap name_fault bytes ∙ is.name))) in
    same_settings s _ _ _ _ _ _ _ kind
    (c.is_there.ensures ∙ ap is_some (at (codes "single")) ∙ set_there s.single (integer (pos 1))) name piece_length
    (c.in_ok-announce.ensures text same)
    (c.is_there-2.ensures ∙ ap is_some (at (codes "private")) ∙ set_there s.is_private (integer (pos 1)))
    (c.is_there-3.ensures ∙ ap is_some (at (codes "tail")) ∙ set_there s.tail (integer (pos 1)))
