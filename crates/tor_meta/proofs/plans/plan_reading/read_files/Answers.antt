-- one file more
use Rattle.std.proofs.Common.{◌≡◌, ◌<◌, ◌∙◌, ◌++◌, ◌∷◌, ◌+◌, ◌^◌, [], ℕ, List, Option, None, Some, ap₂, arith, get_or}
use Rattle.std.proofs.Common.{length, subst, sym, take}
use Rattle.std.proofs.lemmas.List.{length-append, take_all, take_more}
use Rattle.std.proofs.lemmas.Slice.Zip.{length-zip}
use Rattle.std.specs.List.{AllByRecursion, zip}
use Rattle.std.specs.Prelude.{IfSome, IsSomeAnd}
use Rattle.tor_meta.specs.steps.PlanParts.{AreLists, IsFileRead}
use Rattle.tor_meta.proofs.PlanTriples.{long_items, read_at}
use Rattle.tor_tree.specs.Path.{IsFilePath}
use Rattle.tor_tree.specs.declared.attr.Attr.{Attr}
use Rattle.tor_meta.proofs.plans.plan_reading.read_files.Goals as goal

not_none : {X : Type 0} (P : X → Type 0) (found : Option X) → found ≡ None → IsSomeAnd found P → ⊥
not_none P None is has = has
not_none P (Some one) is has = cc

one_more : {X : Type 0} (P : X → Type 0) (xs : List X) (x : X) → AllByRecursion P xs → P x
    → AllByRecursion P (xs ++ x ∷ [])
one_more P [] x all is = (is, tt)
one_more P (y ∷ xs) x all is = (all.0, one_more P xs x all.1 is)

lists_more : (files : List (List (List ℕ) × ℕ)) (attrs : List Attr) (file : List (List ℕ) × ℕ) (attr : Attr)
    → AreLists files attrs → IsFilePath file.0 × (file.1 < 2 ^ 63) → AreLists (files ++ file ∷ []) (attrs ++ attr ∷ [])
lists_more files attrs file attr are is = record {
  one_each = omega (arith, are.one_each, length-append files (file ∷ []), length-append attrs (attr ∷ []));
  each = one_more (λ (file : List (List ℕ) × ℕ). IsFilePath file.0 × (file.1 < 2 ^ 63)) files file are.each is;
}

taken_more : {X : Type 0} (xs ys : List X) (n : ℕ) (x d : X) → n < length xs → get_or xs n d ≡ x → ys ≡ take n xs
    → ys ++ x ∷ [] ≡ take (n + 1) xs
taken_more xs ys n x d there is so_far =
    ap₂ (λ a b. a ++ b ∷ []) so_far (sym is) ∙ sym (take_more xs n d there)

pub returns-in-None-clause-all : goal.returns-in-None-clause-all
returns-in-None-clause-all c = λ text is same.
    let r = read_at text is c.args.items.now c.files.index _ _ _ same c.files-test.true c.index-items-at.is
    c.index-items-at-in-files.is c.index-items-at-in-files-2.is in
    not_none (IsFileRead r.file) c.in_ok-path.field-0 c.in-None.is
    (c.in_ok-path.ensures.all r.file r.path r.small r.items.letters r.items.size r.items.path)

of_one : {X : Type 0} (P : X → Type 0) (found : Option X) (one : X) → found ≡ Some one → IfSome found P → P one
of_one P None one is has = cc
of_one P (Some other) one is has = let same : other ≡ one = cc in subst P same has

that_one : {X : Type 0} (P : X → Type 0) (found : Option X) (one : X) → found ≡ Some one → IsSomeAnd found P → P one
that_one P None one is has = absurd has
that_one P (Some other) one is has = let same : other ≡ one = cc in subst P same has

pub files-preserved : goal.files-preserved
files-preserved c =
    let path = c.in-Some.path in
    let size = c.in-Some.length in
    let attr = c.in-Some.attr in
    let files = c.in_ok-push-in-Some.ensures.items in
    let attrs = c.in_ok-push-in-Some-2.ensures.items in
    let read = of_one (λ (file : List (List ℕ) × ℕ × Attr). IsFilePath file.0 × (file.1 < 2 ^ 63)) c.in_ok-path.field-0
    (path, size, attr) c.in-Some.is c.in_ok-path.ensures.is in
    record {
      lists = subst (λ (fs : List (List (List ℕ) × ℕ)). AreLists fs c.push-in-Some.new.self.items) (sym files)
          (subst (λ (ls : List Attr). AreLists (c.files.files.items ++ (path, size) ∷ []) ls) (sym attrs)
          (lists_more c.files.files.items c.files.attrs.items (path, size) attr c.files.invariant.lists read));
      told = λ text is same.
          let r = read_at text is c.args.items.now c.files.index _ _ _ same c.files-test.true c.index-items-at.is
          c.index-items-at-in-files.is c.index-items-at-in-files-2.is in
          let so_far = c.files.invariant.told text is same in
          let one = that_one (IsFileRead r.file) c.in_ok-path.field-0 (path, size, attr) c.in-Some.is
          (c.in_ok-path.ensures.all r.file r.path r.small r.items.letters r.items.size r.items.path) in
          let pair : (path, size) ≡ r.file.0 = ap₂ (λ (a : List (List ℕ)) (b : ℕ). (a, b)) one.path one.size in (
            files ∙ taken_more text.list.files c.files.files.items c.files.index (path, size) r.file.0 r.in_files
                (r.is_file ∙ sym pair) so_far.0,
            attrs ∙ taken_more text.list.attrs c.files.attrs.items c.files.index attr r.file.1 r.in_attrs
                (r.is_attr ∙ sym one.attr) so_far.1,
          );
    }

pub returns-clause-all : goal.returns-clause-all
returns-clause-all c = λ text is same.
    let files = text.list.files in
    let attrs = text.list.attrs in
    let so_far = c.files.invariant.told text is same in
    let long = long_items c.args.items.now (zip files attrs) same in
    let both = length-zip files attrs in (
      so_far.0 ∙ take_all c.files.index files (omega (arith, c.files-test.false, long, both, is.one_each)),
      so_far.1 ∙ take_all c.files.index attrs (omega (arith, c.files-test.false, long, both, is.one_each)),
    )
