-- A root with another tracker is spelled from parts of its pairs.
use Rattle.tor_edit.proofs.Names.{◌≡◌, ◌+◌, ◌-◌, ◌≤◌, ◌++◌, ◌∙◌, ℕ, List, Option, sym, ap, ap₂, arith, codes, length}
use Rattle.tor_edit.proofs.Names.{take, drop, drop-drop, length-drop, take_all, Pairs, dictionary, keys_of, AreRising}
use Rattle.tor_edit.proofs.Names.{pairs_view, pairs_spelling, spelling, tracker_edited, tracker_pair, after, before}
use Rattle.tor_edit.proofs.Names.{joined}
use Rattle.tor_edit.proofs.ByIndex.{Pair}
use Rattle.tor_edit.proofs.Cuts.{edited_cut}
use Rattle.tor_edit.proofs.Pairs.{spelling-joined}

-- a dictionary of parts: what stands before the tracker, and what follows it up to another key and after that
abbrev pub text_of : List ℕ → Option (List ℕ) → List ℕ → List ℕ → List ℕ
text_of first tracker second third =
    codes "d" ++ (first ++ (pairs_spelling (tracker_pair tracker) ++ (second ++ third))) ++ codes "e"

spelled_joined : (a b c d : Pairs) → pairs_spelling (joined a (joined b (joined c d)))
    ≡ pairs_spelling a ++ (pairs_spelling b ++ (pairs_spelling c ++ pairs_spelling d))
spelled_joined a b c d =
    spelling-joined a (joined b (joined c d))
    ∙ ap (λ text. pairs_spelling a ++ text) (spelling-joined b (joined c d))
    ∙ ap (λ text. pairs_spelling a ++ (pairs_spelling b ++ text)) (spelling-joined c d)

edited_text : (tracker : Option (List ℕ)) (pairs : Pairs) → AreRising (keys_of pairs)
    → spelling (tracker_edited (dictionary pairs) tracker)
    ≡ text_of (pairs_spelling (before (codes "announce") pairs)) tracker
    (pairs_spelling (before (codes "announce-list") (after (codes "announce") pairs)))
    (pairs_spelling (after (codes "announce-list") (after (codes "announce") pairs)))
edited_text tracker pairs rising =
    let later = after (codes "announce") pairs in
    ap (λ all. codes "d" ++ pairs_spelling all ++ codes "e") (edited_cut tracker pairs rising)
    ∙ ap (λ text. codes "d" ++ text ++ codes "e")
    (spelled_joined (before (codes "announce") pairs) (tracker_pair tracker) (before (codes "announce-list") later)
    (after (codes "announce-list") later))

from_zero : (xs : List Pair) (n : ℕ) → take (n - 0) (drop 0 xs) ≡ take n xs
from_zero xs n = let all : n - 0 ≡ n = omega arith in ap (λ k. take k xs) all

-- the parts, by the indices of the two keys, the second counted from what follows the first
pub edited_parts : (xs : List Pair) (tracker : Option (List ℕ)) (first through second behind : ℕ)
    → AreRising (keys_of (pairs_view xs)) → through ≤ length xs
    → pairs_view (take first xs) ≡ before (codes "announce") (pairs_view xs)
    → pairs_view (drop through xs) ≡ after (codes "announce") (pairs_view xs)
    → pairs_view (take second (drop through xs)) ≡ before (codes "announce-list") (pairs_view (drop through xs))
    → pairs_view (drop behind (drop through xs)) ≡ after (codes "announce-list") (pairs_view (drop through xs))
    → text_of (pairs_spelling (pairs_view (take (first - 0) (drop 0 xs)))) tracker
    (pairs_spelling (pairs_view (take (through + second - through) (drop through xs))))
    (pairs_spelling (pairs_view (take (length xs - (through + behind)) (drop (through + behind) xs))))
    ≡ spelling (tracker_edited (dictionary (pairs_view xs)) tracker)
edited_parts xs tracker first through second behind rising within front later between last =
    let spelled = λ (ps : List Pair). pairs_spelling (pairs_view ps) in
    let one : spelled (take (first - 0) (drop 0 xs)) ≡ pairs_spelling (before (codes "announce") (pairs_view xs)) =
    ap spelled (from_zero xs first) ∙ ap pairs_spelling front in
    let count : through + second - through ≡ second = omega arith in
    let two : spelled (take (through + second - through) (drop through xs))
    ≡ pairs_spelling (before (codes "announce-list") (after (codes "announce") (pairs_view xs))) =
    ap (λ n. spelled (take n (drop through xs))) count
    ∙ ap pairs_spelling (between ∙ ap (before (codes "announce-list")) later) in
    let rest = drop (through + behind) xs in
    let three : spelled (take (length xs - (through + behind)) rest)
    ≡ pairs_spelling (after (codes "announce-list") (after (codes "announce") (pairs_view xs))) =
    ap spelled (take_all (length xs - (through + behind)) rest (omega (arith, length-drop (through + behind) xs)))
    ∙ ap spelled (sym (drop-drop behind through xs))
    ∙ ap pairs_spelling (last ∙ ap (after (codes "announce-list")) later) in
    ap (λ text. text_of text tracker (spelled (take (through + second - through) (drop through xs)))
    (spelled (take (length xs - (through + behind)) rest))) one
    ∙ ap₂ (text_of (pairs_spelling (before (codes "announce") (pairs_view xs))) tracker) two three
    ∙ sym (edited_text tracker (pairs_view xs) rising)
