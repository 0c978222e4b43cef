-- What one unit gives to the tree of its file.
use Rattle.std.proofs.Common.{◌≡◌, ◌≢◌, ◌≤◌, ℕ, zero, suc, ◌+◌, true, List, [], ◌∷◌, ◌++◌, length, map, take, drop}
use Rattle.std.proofs.Common.{get_or, cond, Option, None, Some, append-nil, replicate, refl, arith, ap, subst}
use Rattle.std.proofs.Common.{sym, ◌∙◌}
use Rattle.std.specs.List.{AllByRecursion, flat_map}
use Rattle.std.specs.Option.{ForSome}
use Rattle.std.proofs.Math.Seq.{drop-append_seam}
use Rattle.std.proofs.lemmas.List.{length-drop, length-replicate, length-take-le, take_all}
use Rattle.std.proofs.lemmas.List.Elements.{recursion_from_All}
use Rattle.std.proofs.lemmas.List.Sums.{sum_by-cons}
use Rattle.tor_merkle.specs.Feeding.{Feeding}
use Rattle.tor_plan.specs.PlanFacts.{PlanFacts}
use Rattle.tor_plan.specs.WithinEntries.{IsInFile, unit_length}
use Rattle.tor_plan.specs.declared.units.Part.{Part}
use Rattle.tor_plan.specs.declared.units.PlanUnit.{PlanUnit}
use Rattle.tor_source.specs.Source.{SourceFacts}
use Rattle.tor_tree.specs.Kinds.{has_v2}
use Rattle.tor_sums.specs.Hasher.{IsTreeOf}
use Rattle.tor_sums.specs.steps.Hashes.{Node, bytes_of_part, level_in, level_of, node_of_part, node_over}
use Rattle.tor_sums.specs.steps.Hashes.{nodes_of_unit}
use Rattle.tor_sums.specs.steps.Reads.{HaveRead, PartRead}
use Rattle.tor_sums.specs.steps.Run.{HasRoomAt, IsUnitOf, TakesUnit}
use Rattle.tor_sums.proofs.Parts.{size_of, some_bytes}

-- ---- contents that have what was read of one part

put : ℕ → List ℕ → List (List ℕ)
put zero bytes = bytes ∷ []
put (suc file) bytes = [] ∷ put file bytes

put_at : (file : ℕ) (bytes : List ℕ) → get_or (put file bytes) file [] ≡ bytes
unfolding put
put_at zero bytes = refl
put_at (suc file) bytes = put_at file bytes

pub have_one : (part : Part) (reads : List PartRead) → map (λ read. read.0) reads ≡ part ∷ []
    → AllByRecursion (λ read. length read.1 ≡ read.0.length) reads
    → (contents : List (List ℕ)) × HaveRead contents reads × (length (bytes_of_part contents part) ≡ part.length)
have_one part [] are whole = cc
have_one part (read ∷ []) are whole =
    let front = replicate read.0.start 0 in
    let contents = put read.0.file (front ++ read.1) in
    let have : bytes_of_part contents read.0 ≡ read.1 =
    ap (λ xs. take read.0.length (drop read.0.start xs)) (put_at read.0.file (front ++ read.1))
    ∙ ap (λ n. take read.0.length (drop n (front ++ read.1))) (sym (length-replicate {A = ℕ} read.0.start 0))
    ∙ ap (take read.0.length) (drop-append_seam front read.1)
    ∙ take_all read.0.length read.1 (omega (arith, whole.0)) in
    let same : read.0 ≡ part = cc in
    let long : length (bytes_of_part contents read.0) ≡ read.0.length = ap length have ∙ whole.0 in
    (contents, (have, tt), subst (λ (q : Part). length (bytes_of_part contents q) ≡ q.length) same long)
have_one part (read ∷ more ∷ reads) are whole = cc

-- ---- the node of a unit

module _ (plan : PlanFacts) (unit : PlanUnit) (is : IsUnitOf plan unit) (trees : has_v2 plan.kind ≡ true) where
  abbrev pub part : Part
  part = (is.alone trees).0

  pub parts_are : unit.parts ≡ part ∷ []
  parts_are = ap (λ (u : PlanUnit). u.parts) (is.alone trees).1

  in_file : IsInFile plan.lengths part
  in_file =
      (subst (λ (ps : List Part). AllByRecursion (IsInFile plan.lengths) ps) parts_are
      (recursion_from_All (IsInFile plan.lengths) unit.parts is.parts)).0

  abbrev pub feeding : List ℕ → Feeding
  feeding bytes = record { piece_length = plan.piece_length; bytes = bytes }

  pub tree_is : (contents : List (List ℕ)) (tree : Option Feeding)
      → IsTreeOf plan.kind plan.piece_length (flat_map (bytes_of_part contents) unit.parts) tree
      → tree ≡ Some (feeding (bytes_of_part contents part))
  tree_is contents tree of =
      of ∙ ap (λ b. cond b (Some (feeding (flat_map (bytes_of_part contents) unit.parts))) None) trees
      ∙ ap (λ parts. Some (feeding (flat_map (bytes_of_part contents) parts))) parts_are
      ∙ ap (λ bytes. Some (feeding bytes)) (append-nil (bytes_of_part contents part))

  pub node_of_unit : (contents : List (List ℕ)) → map length contents ≡ plan.lengths
      → (node : Node) (level : Option ℕ) (tree : Option Feeding)
      → IsTreeOf plan.kind plan.piece_length (flat_map (bytes_of_part contents) unit.parts) tree
      → ForSome tree (λ t. t.bytes ≢ [] → node ≡ node_over t.piece_length level t.bytes)
      → ((q : Part) → unit.parts ≡ q ∷ []
      → level ≡ level_in (level_of plan.trees) (get_or plan.lengths q.file 0) q.length)
      → node ∷ [] ≡ flat_map (nodes_of_unit plan.piece_length (level_of plan.trees) contents) (unit ∷ [])
  node_of_unit contents fit node level tree of is_node is_level =
      let bytes = bytes_of_part contents part in
      let content = get_or contents part.file [] in
      let size = size_of plan.lengths contents part.file fit in_file.named in
      let long : length bytes ≡ part.length = length-take-le part.length (drop part.start content)
      (omega (arith, in_file.within, size, length-drop part.start content)) in
      let below = level_of plan.trees in
      ap (λ n. n ∷ [])
      (is_node (feeding bytes) (tree_is contents tree of) (some_bytes plan.lengths part bytes in_file long)
      ∙ ap (λ l. node_over plan.piece_length l bytes)
      (is_level part parts_are ∙ ap (λ n. level_in below n part.length) size))
      ∙ sym (append-nil (nodes_of_unit plan.piece_length below contents unit)
      ∙ ap (map (node_of_part plan.piece_length below contents)) parts_are)

  -- what was read has room at the level of the unit
  pub room_of_unit : {F : Type 0} (is_steady : SourceFacts F → Type 0) (own : List ℕ) (read : Option Feeding)
      (tree : Feeding) (k : ℕ) → TakesUnit is_steady plan unit read own
      → read ≡ Some tree
      → HasRoomAt plan.piece_length (unit_length unit) k → HasRoomAt tree.piece_length (length tree.bytes) k
  room_of_unit is_steady own read tree k reads found room =
      let given = have_one part reads.reads (reads.are.each ∙ parts_are) reads.are.whole in
      let bytes = bytes_of_part given.0 part in
      let same : Some tree ≡ Some (feeding bytes) =
      sym found ∙ tree_is given.0 read (reads.trees given.0 given.1) in
      let alike : feeding bytes ≡ tree = cc in
      let size = λ (q : Part). q.length + q.zeros in
      let counted = ap unit_length (is.alone trees).1 in
      let fits : length bytes ≤ unit_length unit = omega (arith, given.2, counted, sum_by-cons size part []) in
      subst (λ (t : Feeding). HasRoomAt t.piece_length (length t.bytes) k) alike
      (room.0, room.1, omega (arith, fits, room.2))
