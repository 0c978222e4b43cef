-- A part that a zero byte ends for each path.
use Rattle.std.proofs.lemmas.Grind.{common_steps}
use Rattle.std.proofs.Common.{◌≡◌, ◌⊎◌, length, ◌<◌, [], ◌∷◌, ◌++◌, arith, List, ℕ, Some, None, sym, ap, ◌∙◌, inl, inr}
use Rattle.std.proofs.Common.{length-append, refl}
use Rattle.std.proofs.lemmas.Bool.Decides.{nat_tests}
use Rattle.std.proofs.lemmas.List.Elements.{All-append, All-cons, All-nil}
use Rattle.std.proofs.lemmas.Result.{err_from_is_err_and}
use Rattle.std.specs.Prelude.{flat_map}
use Rattle.tor_tree.specs.Path.{IsFilePath}
use Rattle.tor_tree.specs.declared.names.NameError.{NameError}
use Rattle.tor_tree.specs.declared.names.NameError.TheVariants as names
use Rattle.tor_report.specs.Shown.{path_text}
use Rattle.tor_cli.specs.make.PathsText.{listed_path, names_fault, names_in, of_name_error, path_end}
use Rattle.tor_cli.specs.declared.make.paths_text.PathsFault.TheVariants.{Memory}
use Rattle.tor_cli.proofs.AttrsLines.{none_there, split-path}
use Rattle.tor_cli.proofs.LinesLeft.{none_left, one_left, one_more, step}
use Rattle.tor_cli.proofs.PathsTexts.{path_apart, path_faultless, path_whole, path_without_end, some_bytes}
use Rattle.tor_cli.proofs.make.paths_text.read_paths.Goals as goal

-- a path without faults is not refused, but for want of memory
only_memory : (parts : List (List ℕ)) (fault : NameError) → names_fault parts ≡ None
    → (names_fault parts ≡ Some fault) ⊎ (fault ≡ names.Memory) → of_name_error fault ≡ Memory
only_memory parts fault none (inl is) = absurd (let bad : None ≡ Some fault = sym none ∙ is in cc)
only_memory parts fault none (inr memory) = rw memory refl

some_left : (rest line more : List ℕ) → rest ≡ line ++ path_end ∷ more → 0 < length rest
some_left rest line more same =
    let long = ap length same ∙ length-append line (path_end ∷ more) in
    omega (arith, long)

pub returns-in_err-path_in-clause-read : goal.returns-in_err-path_in-clause-read
returns-in_err-path_in-clause-read c all each same =
    let rest = c.paths.rest.now in
    let (cut, none) = c.in-Some.ensures.written in
    let left = c.paths.invariant.left all each (sym same) in
    let some = some_left rest c.in-Some.path.now c.in-Some.more.now cut in
    let next = one_left IsFilePath listed_path some_bytes all c.paths.paths.items rest left some in
    let read = c.in-Some.ensures.read (path_text next.next) (flat_map listed_path next.after)
    (path_without_end next.next next.is) (path_apart next.next rest (flat_map listed_path next.after) next.spelled) in
    let faultless = ap (λ (line : List ℕ). names_fault (names_in line)) read.0 ∙ path_faultless next.next next.is in
    let p = err_from_is_err_and c.from_residual.result c.from_residual.ensures.1 in
    rw (p.1, p.2) (only_memory (names_in c.in-Some.path.now) _ faultless c.in_err-path_in.ensures.refused)

pub paths-preserved : goal.paths-preserved
paths-preserved c =
    let rest = c.paths.rest.now in
    let (cut, none) = c.in-Some.ensures.written in
    let path = c.in_ok-path_in.field-0 in
    let whole = path_whole path c.in-Some.path.now rest c.in-Some.more.now c.in_ok-path_in.ensures.path.0 cut in
    let some = some_left rest c.in-Some.path.now c.in-Some.more.now cut in
    rw c.in_ok-push.ensures.items
    record {
      each =
          All-append IsFilePath c.paths.paths.items (path ∷ []) c.paths.invariant.each
          (All-cons IsFilePath path [] c.in_ok-path_in.ensures.path.1 (All-nil IsFilePath));
      written =
          one_more IsFilePath listed_path some_bytes c.args.text.now rest c.in-Some.more.now
          c.paths.paths.items path c.paths.invariant.written whole;
      left = λ all each same.
          let left = c.paths.invariant.left all each same in
          let next = one_left IsFilePath listed_path some_bytes all c.paths.paths.items rest left some in
          let read = c.in-Some.ensures.read (path_text next.next) (flat_map listed_path next.after)
          (path_without_end next.next next.is)
          (path_apart next.next rest (flat_map listed_path next.after) next.spelled) in
          let is_next = c.in_ok-path_in.ensures.path.0 ∙ ap names_in read.0 ∙ split-path next.next next.is in
          step IsFilePath listed_path some_bytes all c.paths.paths.items rest next path c.in-Some.more.now is_next
          read.1;
    }

pub returns-then-not-is_empty-clause-read : goal.returns-then-not-is_empty-clause-read
returns-then-not-is_empty-clause-read c all each same =
    let rest = c.paths.rest.now in
    let some : 0 < length rest = grind (arith, nat_tests) in
    let left = c.paths.invariant.left all each (sym same) in
    let next = one_left IsFilePath listed_path some_bytes all c.paths.paths.items rest left some in
    absurd (none_there path_end rest (path_text next.next) (flat_map listed_path next.after) c.in_default.ensures.none
    (path_apart next.next rest (flat_map listed_path next.after) next.spelled))

pub returns-clause-read : goal.returns-clause-read
returns-clause-read c all each same =
    let none : length c.paths.rest.now ≡ 0 = grind (arith, nat_tests) in
    none_left IsFilePath listed_path some_bytes all c.paths.paths.items c.paths.rest.now
    (c.paths.invariant.left all each (sym same)) none

pub paths-smaller : goal.paths-smaller
paths-smaller c = grind (arith, common_steps)

pub returns-clause-written : goal.returns-clause-written
returns-clause-written c = grind (arith, common_steps)
