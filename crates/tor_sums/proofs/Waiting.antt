-- Bytes that were taken, and wait to be hashed.
use Rattle.std.proofs.Common.{◌≡◌, ℕ, Bool, true, false, List, [], ◌++◌, cond, take, drop, Option, None, Some}
use Rattle.std.proofs.Common.{◌+◌, ◌-◌, ◌≤◌, length, refl, ap, ap₂, sym, subst, ◌∙◌, append_assoc, append-nil, arith}
use Rattle.std.proofs.Common.{length-take, take-append-drop}
use Rattle.std.proofs.Math.Seq.{drop-nil}
use Rattle.std.proofs.lemmas.List.{drop-append-le, drop-drop, drop-take, drop_all, replicate-append-replicate}
use Rattle.std.proofs.lemmas.List.{take-take}
use Rattle.tor_merkle.specs.Feeding.{Feeding}
use Rattle.tor_tree.specs.Kinds.{has_v1, has_v2}
use Rattle.tor_tree.specs.declared.kinds.Kind.{Kind}
use Rattle.tor_v1.specs.Piece.{piece_sums, zeros}
use Rattle.tor_sums.specs.declared.hasher.ContentHasher.{ContentHasher}
use Rattle.tor_sums.specs.declared.room.Room.{Room}
use Rattle.tor_sums.specs.declared.worker.WorkerSums.{WorkerSums}
use Rattle.tor_sums.specs.Hasher.{HasFedContent, IsTreeOf}
use Rattle.tor_sums.specs.steps.Room.{count_in, held_in}
use Rattle.tor_sums.specs.steps.Worker.{HasTaken, Keeps}

pub none_held : (room : Room) → count_in room ≡ 0 → held_in room ≡ []
none_held room none = ap (λ n. take n room.bytes.items) none

-- where nothing waits, all that was taken is hashed
all_fed : (fed held all : List ℕ) → held ≡ [] → fed ++ held ≡ all → fed ≡ all
all_fed fed held all none joined = sym (append-nil fed) ∙ ap (λ xs. fed ++ xs) (sym none) ∙ joined

-- the marked bytes are held
marked_within : (sums : WorkerSums) → sums.treed ≤ length (held_in sums.room)
marked_within sums =
    let long = length-take sums.room.held sums.room.bytes.items in
    omega (arith, long, sums.marked, sums.room.within, sums.room.bytes.ok.0)

none_left : (sums : WorkerSums) → sums.treed ≡ count_in sums.room → drop sums.treed (held_in sums.room) ≡ []
none_left sums all = drop_all sums.treed (held_in sums.room)
    (let long = length-take sums.room.held sums.room.bytes.items in omega (arith, long, all))

-- all that waits, and what of it the tree lacks
pub lacked : (sums : WorkerSums) (count : ℕ) (front last : List ℕ) → count ≡ count_in sums.room
    → front ≡ take count (held_in sums.room) → last ≡ drop sums.treed front
    → last ≡ drop sums.treed (held_in sums.room)
lacked sums count front last all is rest =
    let whole : take count (held_in sums.room) ≡ held_in sums.room =
    ap (λ n. take n (held_in sums.room)) all
    ∙ take-take sums.room.held sums.room.held sums.room.bytes.items (omega arith) in
    rest ∙ ap (drop sums.treed) (is ∙ whole)

-- what lies between two places, and what comes after
seam : (a b : ℕ) (xs : List ℕ) → a ≤ b → drop a (take b xs) ++ drop b xs ≡ drop a xs
seam a b xs le =
    let e : a + (b - a) ≡ b = omega (arith, le) in
    ap (λ n. drop a (take n xs) ++ drop n xs) (sym e)
    ∙ ap₂ (λ front back. front ++ back) (drop-take a (b - a) xs) (sym (drop-drop (b - a) a xs))
    ∙ take-append-drop (b - a) (drop a xs)

more_fed : (fed front left held all : List ℕ) → front ++ left ≡ held → fed ++ held ≡ all → (fed ++ front) ++ left ≡ all
more_fed fed front left held all cut joined =
    append_assoc fed front left ∙ ap (λ xs. fed ++ xs) cut ∙ joined

more_held : (fed held more left all : List ℕ) → left ≡ held ++ more → fed ++ held ≡ all → fed ++ left ≡ all ++ more
more_held fed held more left all longer joined =
    ap (λ xs. fed ++ xs) longer ∙ sym (append_assoc fed held more) ∙ ap (λ xs. xs ++ more) joined

-- ---- what is known of the sums is kept, or gets longer

-- no byte was taken
pub fresh : (kind : Kind) (p : ℕ) (sums : WorkerSums) → HasFedContent kind p [] [] sums.hasher → held_in sums.room ≡ []
    → HasTaken kind p [] [] sums
fresh kind p sums fed none = record {
  fed_bytes = [];
  fed_unit = [];
  fed = fed;
  bytes_joined = λ has. ap (drop sums.treed) none ∙ drop-nil sums.treed;
  unit_joined = λ has. none;
}

-- the tree was fed the first of the bytes that it had not got
pub tree_keeps : (old new : WorkerSums) (count : ℕ) (more : List ℕ) → old.treed ≤ count → new.treed ≡ count
    → more ≡ drop old.treed (take count (held_in old.room)) → new.room ≡ old.room
    → ((kind : Kind) (p : ℕ) (bytes unit : List ℕ) → HasFedContent kind p bytes unit old.hasher
    → HasFedContent kind p (bytes ++ more) unit new.hasher) → Keeps old new
tree_keeps old new count more within marked first same fed kind p bytes unit before =
    let held = held_in old.room in
    let left : drop new.treed (held_in new.room) ≡ drop count held =
    ap (λ n. drop n (held_in new.room)) marked ∙ ap (λ room. drop count (held_in room)) same in
    let cut : more ++ drop new.treed (held_in new.room) ≡ drop old.treed held =
    ap (λ xs. xs ++ drop new.treed (held_in new.room)) first
    ∙ ap (λ xs. drop old.treed (take count held) ++ xs) left ∙ seam old.treed count held within in
    record {
      fed_bytes = before.fed_bytes ++ more;
      fed_unit = before.fed_unit;
      fed = fed kind p before.fed_bytes before.fed_unit before.fed;
      bytes_joined = λ has. more_fed before.fed_bytes more _ _ bytes cut (before.bytes_joined has);
      unit_joined = λ has. ap (λ room. before.fed_unit ++ held_in room) same ∙ before.unit_joined has;
    }

-- the pieces were fed the first bytes that waited, which the tree has
pub pieces_keep : (old new : WorkerSums) (count : ℕ) (front : List ℕ) → count ≤ old.treed
    → new.treed ≡ old.treed - count → front ≡ take count (held_in old.room)
    → held_in new.room ≡ drop count (held_in old.room)
    → ((kind : Kind) (p : ℕ) (bytes unit : List ℕ) → HasFedContent kind p bytes unit old.hasher
    → HasFedContent kind p bytes (unit ++ front) new.hasher) → Keeps old new
pieces_keep old new count front within marked first left fed kind p bytes unit before =
    let held = held_in old.room in
    let cut : front ++ held_in new.room ≡ held =
    ap (λ xs. xs ++ held_in new.room) first ∙ ap (λ xs. take count held ++ xs) left ∙ take-append-drop count held in
    let same : drop new.treed (held_in new.room) ≡ drop old.treed held =
    ap (drop new.treed) left ∙ drop-drop new.treed count held
    ∙ ap (λ n. drop n held) (let e : count + new.treed ≡ old.treed = omega (arith, within, marked) in e) in
    record {
      fed_bytes = before.fed_bytes;
      fed_unit = before.fed_unit ++ front;
      fed = fed kind p before.fed_bytes before.fed_unit before.fed;
      bytes_joined = λ has. ap (λ xs. before.fed_bytes ++ xs) same ∙ before.bytes_joined has;
      unit_joined = λ has. more_fed before.fed_unit front _ _ unit cut (before.unit_joined has);
    }

-- bytes were read behind those that waited
pub takes : (kind : Kind) (p : ℕ) (old new : WorkerSums) (more bytes unit : List ℕ) → new.hasher ≡ old.hasher
    → new.treed ≡ old.treed → held_in new.room ≡ held_in old.room ++ more → HasTaken kind p bytes unit old
    → HasTaken kind p (bytes ++ more) (unit ++ more) new
takes kind p old new more bytes unit same marked longer before =
    let left : drop new.treed (held_in new.room) ≡ drop old.treed (held_in old.room) ++ more =
    ap (λ n. drop n (held_in new.room)) marked ∙ ap (drop old.treed) longer
    ∙ drop-append-le old.treed (held_in old.room) more (marked_within old) in
    record {
      fed_bytes = before.fed_bytes;
      fed_unit = before.fed_unit;
      fed = subst (λ (hasher : ContentHasher). HasFedContent kind p before.fed_bytes before.fed_unit hasher) (sym same)
          before.fed;
      bytes_joined = λ has. more_held before.fed_bytes _ more _ bytes left (before.bytes_joined has);
      unit_joined = λ has. more_held before.fed_unit _ more _ unit longer (before.unit_joined has);
    }

-- zeros were put behind bytes that the tree has all
pub takes_zeros : (kind : Kind) (p : ℕ) (old new : WorkerSums) (more bytes unit : List ℕ)
    → old.treed ≡ count_in old.room → new.treed ≡ count_in new.room → new.hasher ≡ old.hasher
    → held_in new.room ≡ held_in old.room ++ more
    → HasTaken kind p bytes unit old → HasTaken kind p bytes (unit ++ more) new
takes_zeros kind p old new more bytes unit all all' same longer before = record {
  fed_bytes = before.fed_bytes;
  fed_unit = before.fed_unit;
  fed = subst (λ (hasher : ContentHasher). HasFedContent kind p before.fed_bytes before.fed_unit hasher) (sym same)
      before.fed;
  bytes_joined = λ has.
      ap (λ xs. before.fed_bytes ++ xs) (none_left new all' ∙ sym (none_left old all)) ∙ before.bytes_joined has;
  unit_joined = λ has. more_held before.fed_unit _ more _ unit longer (before.unit_joined has);
}

pub takes_none : (kind : Kind) (p : ℕ) (sums : WorkerSums) (bytes unit : List ℕ) (n : ℕ) → n ≡ 0
    → HasTaken kind p bytes unit sums → HasTaken kind p bytes (unit ++ zeros n) sums
unfolding zeros
takes_none kind p sums bytes unit n none taken =
    subst (λ (xs : List ℕ). HasTaken kind p bytes xs sums) (sym (ap (λ k. unit ++ zeros k) none ∙ append-nil unit))
    taken

-- more zeros after zeros
pub takes_more_zeros : (kind : Kind) (p : ℕ) (sums : WorkerSums) (bytes unit : List ℕ) (n m k : ℕ) → n + m ≡ k
    → HasTaken kind p bytes ((unit ++ zeros n) ++ zeros m) sums → HasTaken kind p bytes (unit ++ zeros k) sums
unfolding zeros
takes_more_zeros kind p sums bytes unit n m k is taken =
    subst (λ (xs : List ℕ). HasTaken kind p bytes xs sums)
    (append_assoc unit (zeros n) (zeros m)
    ∙ ap (λ xs. unit ++ xs) (replicate-append-replicate n m 0 ∙ ap zeros is)) taken

-- ---- the end of a unit, and that of the pieces

same_if : {A B : Type 0} (b : Bool) (f : A → B) (x y : A) (z : B) → (b ≡ true → x ≡ y)
    → cond b (f x) z ≡ cond b (f y) z
same_if true f x y z same = ap f (same refl)
same_if false f x y z same = refl

tree_over : ℕ → List ℕ → Option Feeding
tree_over p bytes = Some (record { piece_length = p; bytes = bytes })

module _ (kind : Kind) (p : ℕ) (bytes unit : List ℕ) (sums : WorkerSums) (taken : HasTaken kind p bytes unit sums) where
  -- a tree that is ended with what it lacks of all that waits is over the bytes of the unit
  pub ended_tree : (last : List ℕ) → last ≡ drop sums.treed (held_in sums.room) → (tree : Option Feeding)
      → IsTreeOf kind p (taken.fed_bytes ++ last) tree → IsTreeOf kind p bytes tree
  unfolding tree_over
  ended_tree last lacks tree is =
      is ∙ same_if (has_v2 kind) (tree_over p) (taken.fed_bytes ++ last) bytes None
      (λ has. ap (λ xs. taken.fed_bytes ++ xs) lacks ∙ taken.bytes_joined has)

  -- and the next one begins, while the pieces go on
  pub next_tree : (new : WorkerSums) → new.room ≡ sums.room → new.treed ≡ count_in new.room
      → HasFedContent kind p [] taken.fed_unit new.hasher → HasTaken kind p [] unit new
  next_tree new room all fed = record {
    fed_bytes = [];
    fed_unit = taken.fed_unit;
    fed = fed;
    bytes_joined = λ has. none_left new all;
    unit_joined = λ has. ap (λ room. taken.fed_unit ++ held_in room) room ∙ taken.unit_joined has;
  }

  -- where nothing waits, the sums are those of all
  pub whole_sums : held_in sums.room ≡ [] → (items : List ℕ)
      → items ≡ cond (has_v1 kind) (piece_sums p taken.fed_unit) [] → items ≡ cond (has_v1 kind) (piece_sums p unit) []
  whole_sums none items is =
      is ∙ same_if (has_v1 kind) (piece_sums p) taken.fed_unit unit []
      (λ has. all_fed taken.fed_unit _ unit none (taken.unit_joined has))

  -- and where all that waits was added at the end
  pub ended_sums : (items : List ℕ)
      → items ≡ cond (has_v1 kind) (piece_sums p (taken.fed_unit ++ held_in sums.room)) []
      → items ≡ cond (has_v1 kind) (piece_sums p unit) []
  ended_sums items is =
      is ∙ same_if (has_v1 kind) (piece_sums p) (taken.fed_unit ++ held_in sums.room) unit [] taken.unit_joined
