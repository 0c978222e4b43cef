-- The bytes of files in their own contents: all are there, and a run of them is the run of the content.
use Rattle.tor_spec.proofs.Names.{◌≡◌, ℕ, zero, suc, ◌-◌, ◌*◌, Bool, true, false, not, cond, List, [], ◌∷◌, ◌++◌, map}
use Rattle.tor_spec.proofs.Names.{length, take, drop, replicate, slice_index_or, Option, None, Some, arith, refl, ap}
use Rattle.tor_spec.proofs.Names.{ap₂, ◌∙◌, take_all, append-nil, drop-map, run_at, bytes_in, file_bytes, is_whole}
use Rattle.tor_spec.proofs.Names.{joined_bytes, AreContentsOf, file_entries, joined_content, zeros, Entry}

-- bytes that are there
abbrev pub there : List ℕ → List (Option ℕ)
there bytes = map Some bytes

pub whole_there : (bytes : List ℕ) → is_whole (there bytes) ≡ true
whole_there [] = refl
whole_there (byte ∷ bytes) = whole_there bytes

pub bytes_there : (bytes : List ℕ) → bytes_in (there bytes) ≡ bytes
bytes_there [] = refl
bytes_there (byte ∷ bytes) = ap (λ rest. byte ∷ rest) (bytes_there bytes)

take_there : (n : ℕ) (bytes : List ℕ) → take n (there bytes) ≡ there (take n bytes)
take_there zero bytes = refl
take_there (suc n) [] = refl
take_there (suc n) (byte ∷ bytes) = ap (λ rest. Some byte ∷ rest) (take_there n bytes)

pub run_there : (size : ℕ) (bytes : List ℕ) (i : ℕ) → run_at size (there bytes) i ≡ there (run_at size bytes i)
run_there size bytes i =
    ap (take size) (drop-map Some (i * size) bytes) ∙ take_there size (drop (i * size) bytes)

there_append : (xs ys : List ℕ) → there xs ++ there ys ≡ there (xs ++ ys)
there_append [] ys = refl
there_append (x ∷ xs) ys = ap (λ rest. Some x ∷ rest) (there_append xs ys)

-- a content of the file's size
pub file_there : (size : ℕ) (content : List ℕ) → length content ≡ size → file_bytes size content ≡ there content
file_there size content is =
    let none : size - length content ≡ 0 = omega (arith, is) in
    ap₂ (λ xs n. there xs ++ replicate n None) (take_all size content (omega (arith, is))) none
    ∙ append-nil (there content)

-- a list of entries that begins with this one
one_more : (pad : Bool) (n : ℕ) (entry : Entry) (entries : List Entry) (contents : List (List ℕ)) → entry.length ≡ n
    → ((contents : List (List ℕ)) → AreContentsOf entries contents
    → joined_bytes entries contents ≡ there (joined_content entries contents))
    → map length contents
    ≡ map (λ (one : Entry). one.length) (cond (not pad) (entry ∷ file_entries entries) (file_entries entries))
    → cond pad (there (zeros n) ++ joined_bytes entries contents)
    (file_bytes n (slice_index_or contents 0 []) ++ joined_bytes entries (drop 1 contents))
    ≡ there (cond pad (zeros n ++ joined_content entries contents)
    (slice_index_or contents 0 [] ++ joined_content entries (drop 1 contents)))
one_more true n entry entries contents long others fit =
    ap (λ xs. there (zeros n) ++ xs) (others contents fit) ∙ there_append (zeros n) (joined_content entries contents)
one_more false n entry entries [] long others fit = cc
one_more false n entry entries (content ∷ contents) long others fit =
    let first : length content ≡ entry.length = cc in
    let rest : map length contents ≡ map (λ (one : Entry). one.length) (file_entries entries) = cc in
    ap₂ (λ xs ys. xs ++ ys) (file_there n content (first ∙ long)) (others contents rest)
    ∙ there_append content (joined_content entries contents)

-- the contents of the entries' files
pub joined_there : (entries : List Entry) (contents : List (List ℕ)) → AreContentsOf entries contents
    → joined_bytes entries contents ≡ there (joined_content entries contents)
unfolding joined_content
joined_there [] contents fit = refl
joined_there (entry ∷ entries) contents fit =
    one_more entry.pad entry.length entry entries contents refl (joined_there entries) fit
