-- Lists of messages: chunks and then marks, and one more of either.
use Rattle.std.proofs.Common.{◌≡◌, ℕ, zero, suc, ◌+◌, List, [], ◌∷◌, ◌++◌, map, replicate, length, sym, refl, ap, ◌∙◌}
use Rattle.std.proofs.Common.{append_assoc, append-nil, arith}
use Rattle.std.proofs.lemmas.List.{map-append, replicate-append-replicate, length-append, nil_from_length}
use Rattle.tor_lane.specs.declared.chunk.Chunk.{Chunk}
use Rattle.tor_lane.specs.declared.chunk.Message.{Message}
use Rattle.tor_lane.specs.declared.chunk.Message.TheVariants.{More, Mark}
use Rattle.tor_lane.specs.Messages.{messages_of, chunks_in, marks_in}

-- one more is put

pub one_chunk_more : (put : List Chunk) (c : Chunk) → messages_of (put ++ c ∷ []) 0 ≡ messages_of put 0 ++ More c ∷ []
one_chunk_more put c = append-nil (map More (put ++ c ∷ [])) ∙ map-append More put (c ∷ [])
    ∙ ap (λ y. y ++ More c ∷ []) (sym (append-nil (map More put)))

pub one_mark_more : (put : List Chunk) (n : ℕ) → messages_of put (n + 1) ≡ messages_of put n ++ Mark ∷ []
one_mark_more put n = ap (λ y. map More put ++ y) (sym (replicate-append-replicate n 1 Mark))
    ∙ sym (append_assoc (map More put) (replicate n Mark) (Mark ∷ []))

-- one list after another

pub chunks_apart : (xs ys : List Message) → chunks_in (xs ++ ys) ≡ chunks_in xs ++ chunks_in ys
chunks_apart [] ys = refl
chunks_apart (More c ∷ xs) ys = ap (λ y. c ∷ y) (chunks_apart xs ys)
chunks_apart (Mark ∷ xs) ys = chunks_apart xs ys

pub marks_apart : (xs ys : List Message) → marks_in (xs ++ ys) ≡ marks_in xs + marks_in ys
marks_apart [] ys = omega arith
marks_apart (More c ∷ xs) ys = marks_apart xs ys
marks_apart (Mark ∷ xs) ys = let r = marks_apart xs ys in omega arith

-- what is among chunks and then marks

no_chunks : (n : ℕ) → chunks_in (replicate n Mark) ≡ []
no_chunks zero = refl
no_chunks (suc n) = no_chunks n

all_marks : (n : ℕ) → marks_in (replicate n Mark) ≡ n
all_marks zero = refl
all_marks (suc n) = let r = all_marks n in omega arith

pub chunks_put : (cs : List Chunk) (n : ℕ) → chunks_in (messages_of cs n) ≡ cs
chunks_put [] n = no_chunks n
chunks_put (c ∷ cs) n = ap (λ y. c ∷ y) (chunks_put cs n)

pub marks_put : (cs : List Chunk) (n : ℕ) → marks_in (messages_of cs n) ≡ n
marks_put [] n = all_marks n
marks_put (c ∷ cs) n = marks_put cs n

-- what is left of them, once some have left

abbrev tail_of : List Message → List Message
tail_of [] = []
tail_of (m ∷ ms) = ms

one_left : (m : Message) (ms : List Message) → ¬ ([] ≡ m ∷ ms)
one_left m ms e = let n : 0 ≡ length (m ∷ ms) = ap length e in absurd (omega (arith, n))

-- the marks are last
pub marks_last : (cs : List Chunk) (n : ℕ) (out items : List Message) → messages_of cs n ≡ out ++ items
    → items ≡ messages_of (chunks_in items) (marks_in items)
marks_last cs n [] items e =
    let back : messages_of (chunks_in (messages_of cs n)) (marks_in (messages_of cs n)) ≡ messages_of cs n =
    λ i. messages_of (chunks_put cs n i) (marks_put cs n i) in
    sym e ∙ sym back ∙ ap (λ y. messages_of (chunks_in y) (marks_in y)) e
marks_last [] zero (m ∷ out) items e = absurd (one_left m (out ++ items) e)
marks_last [] (suc n) (m ∷ out) items e = marks_last [] n out items (ap tail_of e)
marks_last (c ∷ cs) n (m ∷ out) items e = marks_last cs n out items (ap tail_of e)

-- and behind the last one stands nothing
pub none_behind : (all out items : List Message) → all ++ Mark ∷ [] ≡ out ++ items → marks_in items ≡ 0 → items ≡ []
none_behind all [] items e unmarked =
    let a = marks_apart all (Mark ∷ []) in
    let b : marks_in (all ++ Mark ∷ []) ≡ marks_in items = ap marks_in e in
    let one : marks_in (Mark ∷ []) ≡ 1 = refl in absurd (omega arith)
none_behind [] (m ∷ out) items e unmarked =
    let n : 0 ≡ length (out ++ items) = ap (λ ms. length (tail_of ms)) e in
    let k = length-append out items in nil_from_length items (omega arith)
none_behind (a ∷ all) (m ∷ out) items e unmarked = none_behind all out items (ap tail_of e) unmarked
