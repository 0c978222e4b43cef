-- The longest run of bytes that pass a test.
use Rattle.tor_bencode.proofs.Names.{◌≡◌, ℕ, List, [], ◌∷◌, ◌++◌, length, take, drop, Bool, true, false, cond, refl}
use Rattle.tor_bencode.proofs.Names.{sym, ap, ◌∙◌, ◌-◌, arith, one-add, take-append-drop, take_all, list_all}
use Rattle.tor_bencode.proofs.Names.{prefix_len, and_parts}

-- one of the two, by the test
pub by_test : {A : Type 0} (b : Bool) (P : A → Type 0) (x y : A) → (b ≡ true → P x) → (b ≡ false → P y) → P (cond b x y)
by_test true P x y f g = f refl
by_test false P x y f g = g refl

-- all but the first byte
pub take_rest : (c : ℕ) (rest : List ℕ) → take (length (c ∷ rest) - 1) (drop 1 (c ∷ rest)) ≡ rest
take_rest c rest = take_all _ rest (omega arith)

-- a run, and the byte after it that does not pass
pub prefix_len-run : (p : ℕ → Bool) (run : List ℕ) (c : ℕ) (more : List ℕ) → list_all p run ≡ true → p c ≡ false
    → prefix_len p (run ++ c ∷ more) ≡ length run
prefix_len-run p [] c more all stop = rw stop refl
prefix_len-run p (x ∷ run) c more all stop =
    let both = and_parts (p x) (list_all p run) all in
    rw both.0 (omega (arith, prefix_len-run p run c more both.1 stop))

pub prefix_len-all : (p : ℕ → Bool) (run : List ℕ) → list_all p run ≡ true → prefix_len p run ≡ length run
prefix_len-all p [] all = refl
prefix_len-all p (x ∷ run) all =
    let both = and_parts (p x) (list_all p run) all in
    rw both.0 (omega (arith, prefix_len-all p run both.1))

passes_at : (p : ℕ → Bool) (x : ℕ) (xs : List ℕ) (b : Bool) → p x ≡ b → list_all p (take (prefix_len p xs) xs) ≡ true
    → list_all p (take (prefix_len p (x ∷ xs)) (x ∷ xs)) ≡ true
passes_at p x xs true e later = rw (e, one-add) (rw e later)
passes_at p x xs false e later = rw e refl

pub run_passes : (p : ℕ → Bool) (xs : List ℕ) → list_all p (take (prefix_len p xs) xs) ≡ true
run_passes p [] = refl
run_passes p (x ∷ xs) = passes_at p x xs (p x) refl (run_passes p xs)

stops_at : (p : ℕ → Bool) (x : ℕ) (xs : List ℕ) (c : ℕ) (more : List ℕ) (b : Bool) → p x ≡ b
    → drop (prefix_len p (x ∷ xs)) (x ∷ xs) ≡ c ∷ more
    → (drop (prefix_len p xs) xs ≡ c ∷ more → p c ≡ false) → p c ≡ false
stops_at p x xs c more true f e later = later (rw (f, one-add) at e)
stops_at p x xs c more false f e later =
    let same : x ∷ xs ≡ c ∷ more = rw f at e in let head : x ≡ c = cc in ap p (sym head) ∙ f

pub run_stops : (p : ℕ → Bool) (xs : List ℕ) (c : ℕ) (more : List ℕ) → drop (prefix_len p xs) xs ≡ c ∷ more
    → p c ≡ false
run_stops p [] c more e = absurd cc
run_stops p (x ∷ xs) c more e = stops_at p x xs c more (p x) refl e (run_stops p xs c more)

-- the run and what comes after it are all of the bytes
pub run_whole : (p : ℕ → Bool) (xs after : List ℕ) → drop (prefix_len p xs) xs ≡ after
    → xs ≡ take (prefix_len p xs) xs ++ after
run_whole p xs after e = sym (take-append-drop (prefix_len p xs) xs) ∙ ap (λ ys. take (prefix_len p xs) xs ++ ys) e
