-- The entries of the tests can be cut.
use Rattle.std.proofs.Common.{List, ◌≡◌, ◌∙◌, ℕ, ◌≤◌, false, [], ◌∷◌, arith, refl, ap₂, inl}
use Rattle.std.proofs.lemmas.List.Elements.{All-nil, All-cons}
use Rattle.std.specs.List.{All}
use Rattle.tor_tree.specs.declared.kinds.Kind.TheVariants.{V1, Hybrid}
use Rattle.tor_merkle.specs.declared.TheConstants.{MAX_LENGTH}
use Rattle.tor_v1.specs.Entries.{pad_entry}
use Rattle.tor_v1.specs.declared.entry.Entry.{Entry}
use Rattle.tor_plan.specs.Entries.{padding_before_next}
use Rattle.tor_plan.specs.EntryList.{ArePadded, IsEntryList, IsLaidOut}

abbrev pub Path : Type 0
Path = List (List ℕ)

abbrev pub file : Path → ℕ → Entry
file path m = record { path = path; length = m; pad = false; exec = false; hidden = false }

pub file_is : (entry : Entry) (m : ℕ)
    → (entry.length ≡ m) × (entry.pad ≡ false) × (entry.exec ≡ false) × (entry.hidden ≡ false)
    → entry ≡ file entry.path m
file_is entry m is =
    ap₂ (λ n b. record entry { length = n; pad = b }) is.0 is.1
    ∙ ap₂ (λ x h. record { path = entry.path; length = m; pad = false; exec = x; hidden = h }) is.2 is.3

-- five entries, each of which is known
pub five : (a b c d e a' b' c' d' e' : Entry) → a ≡ a' → b ≡ b' → c ≡ c' → d ≡ d' → e ≡ e'
    → a ∷ b ∷ c ∷ d ∷ e ∷ [] ≡ a' ∷ b' ∷ c' ∷ d' ∷ e' ∷ []
five a b c d e a' b' c' d' e' p q r s t = cc

abbrev IsSmall : ℕ → Type 0
IsSmall m = m ≤ MAX_LENGTH

three_small : (a b c : ℕ) → IsSmall a → IsSmall b → IsSmall c → All IsSmall (a ∷ b ∷ c ∷ [])
three_small a b c p q r =
    All-cons IsSmall a (b ∷ c ∷ []) p (All-cons IsSmall b (c ∷ []) q (All-cons IsSmall c [] r (All-nil IsSmall)))

pub joined_row : (a b c : Path)
    → IsEntryList V1 4 (pad_entry 3 ∷ file a 2 ∷ file b 0 ∷ pad_entry 9 ∷ file c 1 ∷ [])
unfolding IsLaidOut
joined_row a b c = record {
  total = omega arith;
  files = three_small 2 0 1 (omega arith) (omega arith) (omega arith);
  laid_out = tt;
}

pub hybrid_row : (a b c : Path)
    → IsEntryList Hybrid 16384 (file a 40000 ∷ file b 0 ∷ pad_entry 9152 ∷ file c 5 ∷ pad_entry 16379 ∷ [])
unfolding IsLaidOut ArePadded padding_before_next
hybrid_row a b c = record {
  total = omega arith;
  files = three_small 40000 0 5 (omega arith) (omega arith) (omega arith);
  laid_out = (
    refl,
    ((λ filled. inl refl), ((λ filled. cc), ((λ filled. cc), ((λ filled. inl refl), ((λ filled. cc), tt))))),
  );
}
