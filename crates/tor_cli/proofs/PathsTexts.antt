-- Texts that list paths, each ended by a zero byte.
use Rattle.std.proofs.Common.{◌≡◌, ◌≢◌, ◌<◌, ◌⊎◌, ℕ, List, [], ◌∷◌, ◌++◌, length, refl, sym, ap, ◌∙◌, arith, inl, inr, true, false, Bool}
use Rattle.std.proofs.Common.{Option, Some, None, length-append, append_assoc, subst}
use Rattle.std.proofs.lemmas.List.Elements.{All-cons, All-head, All-nil, All-tail}
use Rattle.std.specs.Prelude.{if◌then◌else◌}
use Rattle.std.specs.List.{All}
use Rattle.std.specs.Option.{option_or}
use Rattle.tor_tree.specs.Name.{has_byte, name_fault, slash}
use Rattle.tor_tree.specs.Path.{IsFilePath}
use Rattle.tor_tree.specs.declared.names.NameError.{NameError}
use Rattle.tor_tree.specs.declared.names.NameError.TheVariants.{Empty, Dot, DotDot, Slash, Memory, Nul, NotUtf8}
use Rattle.tor_report.specs.Shown.{path_text}
use Rattle.tor_cli.specs.make.PathsText.{listed_path, names_fault, names_in, path_end}
use Rattle.tor_cli.proofs.AttrsLines.{in_path, path_text-split, split-path}

pub some_bytes : (path : List (List ℕ)) → 0 < length (listed_path path)
some_bytes path = omega (arith, length-append (path_text path) (path_end ∷ []))

by_tests : (a b c d s e : Bool) → (if a then Some Empty else (
    if b then Some Dot else (
    if c then Some DotDot else (
    if s then Some Slash else (
    if d then Some Nul else (
    if e then None else Some NotUtf8)))))) ≡ None → d ≡ false
by_tests a b c false s e none = refl
by_tests true b c true s e none = absurd cc
by_tests false true c true s e none = absurd cc
by_tests false false true true s e none = absurd cc
by_tests false false false true true e none = absurd cc
by_tests false false false true false e none = absurd cc

-- no name has the byte that ends a path
no_end : (name : List ℕ) → name_fault name ≡ None → has_byte path_end name ≡ false
no_end name none = by_tests _ _ _ (has_byte path_end name) _ _ none

ends_none : (path : List (List ℕ)) → All (λ name. name_fault name ≡ None) path
    → All (λ name. has_byte path_end name ≡ false) path
ends_none [] named = All-nil (λ name. has_byte path_end name ≡ false)
ends_none (name ∷ names) named =
    All-cons (λ name. has_byte path_end name ≡ false) name names
    (no_end name (All-head (λ n. name_fault n ≡ None) name names named))
    (ends_none names (All-tail (λ n. name_fault n ≡ None) name names named))

-- nor has a path
pub path_without_end : (path : List (List ℕ)) → IsFilePath path → has_byte path_end (path_text path) ≡ false
path_without_end path is = in_path path_end refl path (ends_none path is.named)

-- names have no fault if each has none
pub faultless : (names : List (List ℕ)) → All (λ name. name_fault name ≡ None) names → names_fault names ≡ None
faultless [] all = refl
faultless (name ∷ names) all =
    rw (All-head (λ n. name_fault n ≡ None) name names all)
    (faultless names (All-tail (λ n. name_fault n ≡ None) name names all))

-- of the text of a path no name has a fault
pub path_faultless : (path : List (List ℕ)) → IsFilePath path → names_fault (names_in (path_text path)) ≡ None
path_faultless path is = rw (split-path path is) (faultless path is.named)

-- the fault of a name is that of the names from it on
pub fault_at : (name : List ℕ) (names : List (List ℕ)) (fault : NameError) → name_fault name ≡ Some fault
    → names_fault (name ∷ names) ≡ Some fault
fault_at name names fault is = rw is refl

pub fault_behind : (name : List ℕ) (names : List (List ℕ)) → name_fault name ≡ None
    → names_fault (name ∷ names) ≡ names_fault names
fault_behind name names none = rw none refl

-- a path's text, and what ends it, at the front of a text
pub path_apart : (path : List (List ℕ)) (text rest : List ℕ) → text ≡ listed_path path ++ rest
    → text ≡ path_text path ++ path_end ∷ rest
path_apart path text rest same = same ∙ append_assoc (path_text path) (path_end ∷ []) rest

pub path_whole : (path : List (List ℕ)) (line text rest : List ℕ) → path ≡ names_in line
    → text ≡ line ++ path_end ∷ rest → text ≡ listed_path path ++ rest
path_whole path line text rest read same =
    same ∙ ap (λ (t : List ℕ). t ++ path_end ∷ rest) (sym (ap path_text read ∙ path_text-split line))
    ∙ sym (append_assoc (path_text path) (path_end ∷ []) rest)

-- what is refused, and not for want of memory, is no path
pub refused_is_none : (parts : List (List ℕ)) (fault : NameError)
    → (names_fault parts ≡ Some fault) ⊎ (fault ≡ Memory) → (fault ≡ Memory → ⊥) → IsFilePath parts → ⊥
refused_is_none parts fault (inl is) other path =
    let bad : None ≡ Some fault = sym (faultless parts path.named) ∙ is in cc
refused_is_none parts fault (inr memory) other path = other memory
