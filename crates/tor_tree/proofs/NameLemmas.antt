-- What is known of a name that has no fault.
use Rattle.tor_tree.proofs.Cited.{◌≡◌, ◌==◌, ℕ, Bool, true, false, cond, List, length, Option, Some, None, codes, refl}
use Rattle.tor_tree.proofs.Cited.{sym, Result, Ok, Err, is_ok, MatchResult, IsUtf8, is_utf8, bytes_eq}
use Rattle.tor_tree.proofs.Cited.{IsUtf8-from_is_utf8, is_utf8-from_IsUtf8, false_from_ne_true, NotUtf8, name_fault}
use Rattle.tor_tree.proofs.Cited.{has_byte, slash}

-- a test that gives a fault is not passed where there is none
later : {E : Type 0} (test : Bool) (fault : E) (rest : Option E) → cond test (Some fault) rest ≡ None → rest ≡ None
later true fault rest h = cc
later false fault rest h = h

passed : {E : Type 0} (test : Bool) (fault : E) → cond test None (Some fault) ≡ None → test ≡ true
passed true fault h = refl
passed false fault h = cc

pub IsUtf8-faultless : (name : List ℕ) → name_fault name ≡ None → IsUtf8 name
IsUtf8-faultless name h =
    IsUtf8-from_is_utf8 name
    (passed (is_utf8 name) NotUtf8
    (later (has_byte 0 name) _ _ (later (has_byte slash name) _ _
    (later (bytes_eq name (codes "..")) _ _ (later (bytes_eq name (codes ".")) _ _ (later (length name == 0) _ _ h))))))

-- a call that is Ok of text alone answers as the test does
pub is_ok-utf8 : {S E : Type 0} (bytes : List ℕ) (r : Result S E) (Found : S → Type 0) (Refused : E → Type 0)
    → MatchResult r Found Refused → ((s : S) → Found s → IsUtf8 bytes) → ((e : E) → Refused e → IsUtf8 bytes → ⊥)
    → is_ok r ≡ is_utf8 bytes
is_ok-utf8 bytes (Ok s) Found Refused h found refused = sym (is_utf8-from_IsUtf8 bytes (found s h))
is_ok-utf8 bytes (Err e) Found Refused h found refused =
    sym (false_from_ne_true (is_utf8 bytes) (λ t. refused e h (IsUtf8-from_is_utf8 bytes t)))
