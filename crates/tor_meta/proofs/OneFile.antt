-- One file that lies at the top, and its content.
use Rattle.std.proofs.Common.{◌≡◌, ℕ, zero, suc, ◌<◌, Bool, true, false, not, ◌&&◌, cond, List, [], ◌∷◌, ◌++◌, length}
use Rattle.std.proofs.Common.{None, get_or, nat_lt, refl, subst, sym, ap, ◌∙◌, arith}
use Rattle.std.specs.List.{All}
use Rattle.std.specs.List.Sorted.{IsPermutation}
use Rattle.std.proofs.lemmas.Bool.{lt-ltb}
use Rattle.std.proofs.lemmas.List.{append-nil}
use Rattle.std.proofs.lemmas.List.Sorted.{All-permutation, length_permutation}
use Rattle.tor_meta.specs.Fed.{tail_length}
use Rattle.tor_meta.specs.steps.Sums.{AreSumsOfSettings, SumsOfOne}
use Rattle.tor_meta.specs.Head.{settings_of}
use Rattle.tor_meta.specs.Order.{has_tail}
use Rattle.tor_meta.specs.steps.Sums.{SumUp}
use Rattle.tor_meta.specs.declared.head.Head.{Head}
use Rattle.tor_sums.specs.declared.sums.Sums.{Sums}
use Rattle.tor_merkle.specs.Layer.{piece_layer, root_of}
use Rattle.tor_plan.specs.Content.{cut_content, layout_of_kind as plan_layout}
use Rattle.tor_tree.specs.declared.kinds.Kind.{Kind}
use Rattle.tor_tree.specs.declared.kinds.Kind.TheVariants.{V1, V2, Hybrid}
use Rattle.tor_spec.specs.Settings.{Settings, is_aligned, layout_of}
use Rattle.tor_v1.specs.Content.{joined_content, v1_pieces}
use Rattle.tor_v1.specs.Entries.{aligned_entries, has_bytes, pad_entry, padding_after, padding_length}
use Rattle.tor_v1.specs.Entries.{v1_entries}
use Rattle.tor_v1.specs.Piece.{piece_sums, zeros}
use Rattle.tor_v1.specs.declared.layout.Layout.{Layout}
use Rattle.tor_v1.specs.declared.layout.Layout.TheVariants.{Joined, Aligned, AlignedTail}

-- a list that has the elements of one with one element
pub only_one : {X : Type 0} (x : X) (xs : List X) → IsPermutation (x ∷ []) xs → xs ≡ x ∷ []
only_one {X = X} x xs moved =
    from_length xs (length_permutation (x ∷ []) xs moved)
    (All-permutation (λ y. y ≡ x) (x ∷ []) xs moved (λ k d lt. first k d lt))
  where
    first : (k : ℕ) (d : X) → k < 1 → get_or (x ∷ []) k d ≡ x
    first zero d lt = refl
    first (suc k) d lt = absurd (omega arith)

    from_length : (ys : List X) → length ys ≡ 1 → All (λ y. y ≡ x) ys → ys ≡ x ∷ []
    from_length [] e all = absurd (omega arith)
    from_length (y ∷ []) e all = ap (λ z. z ∷ []) (all 0 y (omega arith))
    from_length (y ∷ z ∷ ys) e all = absurd (omega arith)

no_zeros : zeros 0 ≡ []
unfolding zeros
no_zeros = refl

no_padding : (p m : ℕ) → joined_content (padding_after false p m [] ++ []) [] ≡ zeros 0
unfolding joined_content
no_padding p m = by_test (nat_lt 0 (padding_length p m))
  where
    by_test : (b : Bool)
        → joined_content (cond (b && has_bytes []) (pad_entry (padding_length p m) ∷ []) [] ++ []) [] ≡ zeros 0
    by_test true = sym no_zeros
    by_test false = sym no_zeros

its_padding : (p m : ℕ) → joined_content (padding_after true p m [] ++ []) [] ≡ zeros (padding_length p m)
unfolding joined_content
its_padding p m = by_length (padding_length p m)
  where
    by_length : (n : ℕ) → joined_content (cond (nat_lt 0 n && true) (pad_entry n ∷ []) [] ++ []) [] ≡ zeros n
    by_length zero = sym no_zeros
    by_length (suc n) =
        ap (λ b. joined_content (cond (b && true) (pad_entry (suc n) ∷ []) [] ++ []) [])
        (lt-ltb 0 (suc n) (omega arith)) ∙ append-nil (zeros (suc n))

-- the content of one file, and its tail
one_content : (layout : Layout) (p : ℕ) (file : List (List ℕ) × ℕ) (bytes : List ℕ)
    → joined_content (v1_entries layout p (file ∷ [])) (bytes ∷ []) ≡ bytes ++ zeros (tail_length layout p file.1)
unfolding joined_content aligned_entries
one_content Joined p file bytes = ap (λ xs. bytes ++ xs) (sym no_zeros)
one_content Aligned p file bytes = ap (λ xs. bytes ++ xs) (no_padding p file.1)
one_content AlignedTail p file bytes = ap (λ xs. bytes ++ xs) (its_padding p file.1)

-- the sums of one file are those of its content
pub pieces_of_one : (layout : Layout) (p : ℕ) (file : List (List ℕ) × ℕ) (bytes : List ℕ)
    → v1_pieces p (v1_entries layout p (file ∷ [])) (bytes ∷ [])
    ≡ piece_sums p (bytes ++ zeros (tail_length layout p file.1))
unfolding v1_pieces
pieces_of_one layout p file bytes = ap (piece_sums p) (one_content layout p file bytes)

pub sum_up_one : (head : Head) (file : List (List ℕ) × ℕ) (bytes : List ℕ) (sums : Sums)
    → SumsOfOne head.kind head.piece_length bytes
    (tail_length (layout_of (settings_of head)) head.piece_length file.1) sums
    → SumUp head (file ∷ []) (bytes ∷ []) sums
sum_up_one head file bytes sums one = record {
  roots = one.roots;
  layers = one.layers;
  pieces = λ e. one.pieces e ∙ sym (pieces_of_one (layout_of (settings_of head)) head.piece_length file bytes);
}

-- streams are laid out as the torrent
same_tail : (settings : Settings) (p m : ℕ)
    → tail_length (plan_layout settings.kind (has_tail settings)) p m ≡ tail_length (layout_of settings) p m
same_tail settings p m = by_kind settings.kind settings.single settings.tail
  where
    by_kind : (kind : Kind) (single tail : Bool) → tail_length (plan_layout kind (not single && tail)) p m
        ≡ tail_length (cond (is_aligned kind single) (cond tail AlignedTail Aligned) Joined) p m
    by_kind V1 single tail = refl
    by_kind V2 single tail = refl
    by_kind Hybrid true tail = refl
    by_kind Hybrid false true = refl
    by_kind Hybrid false false = refl

-- and the sums of one content are those of one file
pub sums_of_one : (settings : Settings) (content : List ℕ) (sums : Sums)
    → AreSumsOfSettings settings (content ∷ []) sums
    → SumsOfOne settings.kind settings.piece_length content
    (tail_length (layout_of settings) settings.piece_length (length content)) sums
unfolding v1_pieces
sums_of_one settings content sums up =
    let kind = settings.kind in
    let p = settings.piece_length in
    let file : List (List ℕ) × ℕ = ([], length content) in
    let are = up (file ∷ []) refl in record {
      roots = λ e. are.roots ∙ ap (λ b. cond b (root_of content) None ∷ []) e;
      layers = λ e. are.layers ∙ ap (λ b. cond b (piece_layer content p) [] ∷ []) e;
      pieces = λ e. are.pieces
          ∙ ap (λ b. cond b (piece_sums p (cut_content kind (has_tail settings) p (file ∷ []) (content ∷ []))) []) e
          ∙ pieces_of_one (plan_layout kind (has_tail settings)) p file content
          ∙ ap (λ n. piece_sums p (content ++ zeros n)) (same_tail settings p (length content));
    }

-- the sums of one content are those of one file, by a head and by how many bytes were counted
pub sums_of_one_read : (head : Head) (settings : Settings) (content : List ℕ) (count : ℕ) (sums : Sums)
    → settings_of head ≡ settings → length content ≡ count → AreSumsOfSettings settings (content ∷ []) sums
    → SumsOfOne head.kind head.piece_length content
    (tail_length (layout_of (settings_of head)) head.piece_length count) sums
sums_of_one_read head settings content count sums of_head counted up =
    subst (λ (n : ℕ). SumsOfOne head.kind head.piece_length content
    (tail_length (layout_of (settings_of head)) head.piece_length n) sums) counted
    (subst (λ (s : Settings). SumsOfOne s.kind s.piece_length content
    (tail_length (layout_of s) s.piece_length (length content)) sums) (sym of_head)
    (sums_of_one settings content sums up))
