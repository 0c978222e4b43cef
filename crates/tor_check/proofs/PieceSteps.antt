-- What is left to refuse of a file that has a tree, and the proof of a file that has one hash.
use Rattle.tor_check.proofs.Names.{◌≡◌, ℕ, ◌<◌, ◌≤◌, true, List, [], refl, None, Some, leb-false, leb-true, nat_le}
use Rattle.tor_check.proofs.Names.{◌==◌, ◌∙◌, false, Bool, cond, sym, slice_get, if◌then◌else◌, le-ltb, cond_some}
use Rattle.tor_check.proofs.Names.{none-some, bytes_eq-Decides, IsPieceProof, piece_refusal, ProveError, is_proof}
use Rattle.tor_check.proofs.Names.{proof_count, proof_level, proof_root, height, FileView, View, has_v2, length}
use Rattle.tor_check.proofs.Names.{not, ◌||◌}
use Rattle.std.proofs.lemmas.Option.{slice_get_past}
use Rattle.tor_check.specs.declared.piece_proofs.ProveError.TheVariants as errors

-- one hash is its own root
alone : (root : List ℕ) (bottom : ℕ) → is_proof root 1 bottom 0 root [] ≡ true
unfolding height proof_root
alone root bottom = rw ((bytes_eq-Decides root root).1 refl) refl

-- of a file of at most one piece
pub proof_of_root : (p : ℕ) (told : FileView) (index : ℕ) (hash : List ℕ) (siblings : List (List ℕ))
    → told.file.length ≤ p → told.file.root ≡ Some hash → index ≡ 0 → siblings ≡ []
    → IsPieceProof p told index hash siblings
proof_of_root p told index hash siblings short root first none =
    let small = le-ltb p told.file.length short in
    record {
      of_piece = rw (small, root) refl;
      proof = rw (small, root, first, none) (alone hash (proof_level told.file.length p));
    }

-- no file is at the index
pub no_file : (view : View) (file index : ℕ) → length view.files ≤ file
    → piece_refusal view file index ≡ Some errors.Index
no_file view file index past = rw (slice_get_past view.files file past) refl

-- no v2 side, or an empty file
pub no_tree : (view : View) (file index : ℕ) (told : FileView) → slice_get view.files file ≡ Some told
    → (not (has_v2 view.kind) || told.file.length == 0) ≡ true → piece_refusal view file index ≡ Some errors.NoTree
no_tree view file index told there without = rw (there, without) refl

-- a file of a v2 side that is not empty, at its index
pub record IsFound (view : View) (file : ℕ) (told : FileView) : Type 0 where
  pub v2 : has_v2 view.kind ≡ true
  pub there : slice_get view.files file ≡ Some told
  pub filled : (told.file.length == 0) ≡ false

-- only the piece is refused of it
in_file : (view : View) (file index : ℕ) (told : FileView) → IsFound view file told → piece_refusal view file index
    ≡ (if nat_le (proof_count told.file.length view.piece_length) index then Some errors.Index else None)
in_file view file index told is = rw (is.there, is.v2, is.filled) refl

pub index_alone : (view : View) (file index : ℕ) (told : FileView) (fault : ProveError) → IsFound view file told
    → piece_refusal view file index ≡ Some fault
    → (proof_count told.file.length view.piece_length ≤ index) × (errors.Index ≡ fault)
index_alone view file index told fault is refused =
    let count = proof_count told.file.length view.piece_length in
    let both = cond_some (nat_le count index) errors.Index fault (sym (in_file view file index told is) ∙ refused) in
    (leb-true count index both.0, both.1)

pub index_there : (view : View) (file index : ℕ) (told : FileView) → IsFound view file told
    → piece_refusal view file index ≡ None → index < proof_count told.file.length view.piece_length
index_there view file index told is none =
    let count = proof_count told.file.length view.piece_length in
    leb-false count index (by_test (nat_le count index) (sym (in_file view file index told is) ∙ none))
  where
    by_test : (b : Bool) → cond b (Some errors.Index) None ≡ None → b ≡ false
    by_test true e = absurd (none-some errors.Index (sym e))
    by_test false e = refl
