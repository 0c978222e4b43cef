-- What the exports answer of proofs that a piece is of a file.
use Rattle.std.specs.Prelude.{◌≡◌, ◌⊎◌, ℕ, ◌==◌, Bool, not, ◌&&◌, nat_lt, nat_le, List, length}
use Rattle.std.specs.Prelude.{if◌then◌else◌, Option, None, Some, IsNone, IsTrue, unwrap_or}
use Rattle.tor_merkle.specs.PieceHash.{merkle_hash}
use Rattle.tor_view.specs.PieceBytes.{piece_size as size_of_piece}
use Rattle.tor_merkle.specs.Layer.{is_piece_length}
use Rattle.tor_merkle.specs.Proof.{is_proof, proof_count, proof_level}
use Rattle.tor_merkle.specs.Subtree.{height}
use Rattle.tor_merkle.specs.declared.TheConstants.{MAX_LENGTH}
use Rattle.tor_c.specs.declared.claim.Claim.{Claim}
use Rattle.tor_c.specs.declared.TheConstants.{ACCEPTED, MEMORY, NOT_PROVED, BAD_LENGTH, BAD_PIECE_LENGTH}

-- a piece of a file of so many bytes, with this root, in a torrent of this piece length
abbrev pub claim : List ℕ → ℕ → ℕ → ℕ → Claim
claim root size piece_length index =
    record { root = root; size = size; piece_length = piece_length; index = index }

-- a length that a file with a root may have (profile)
abbrev pub is_file_length : ℕ → Bool
is_file_length size = nat_lt 0 size && nat_le size MAX_LENGTH

-- the hash and the siblings are a proof that the piece is of the file (BEP 52, "piece layers")
abbrev pub is_proved : Claim → List ℕ → List (List ℕ) → Bool
is_proved claim hash siblings =
    is_proof claim.root (proof_count claim.size claim.piece_length) (proof_level claim.size claim.piece_length)
    claim.index hash siblings

-- how many bytes the piece of a claim has
abbrev pub piece_size : Claim → ℕ
piece_size claim = size_of_piece claim.size claim.piece_length claim.index

-- there are as many bytes as the piece has
abbrev pub has_all_bytes : Claim → List ℕ → Bool
has_all_bytes claim bytes = length bytes == piece_size claim

-- the bytes are as many as the piece has, and their Merkle hash is proved (BEP 52, "piece layers", "pieces root")
abbrev pub are_proved : Claim → List ℕ → List (List ℕ) → Bool
are_proved claim bytes siblings =
    has_all_bytes claim bytes && is_proved claim (merkle_hash claim.piece_length claim.size bytes) siblings

-- why there can be no such file, the first that holds
abbrev pub claim_fault : Claim → Option ℕ
claim_fault claim =
    if not (is_file_length claim.size) then Some BAD_LENGTH else (
    if is_piece_length claim.piece_length then None else Some BAD_PIECE_LENGTH)

-- the answer to a proof that holds or not
abbrev pub truth_answer : Bool → ℕ
truth_answer holds = if holds then ACCEPTED else NOT_PROVED

-- the answer to a proof that holds or not, of a file that there can be or not (profile)
abbrev pub proof_answer : Claim → Bool → ℕ
proof_answer claim holds = unwrap_or (claim_fault claim) (truth_answer holds)

-- there are as many siblings as the tree over the file's pieces has levels
abbrev pub has_all_siblings : Claim → List (List ℕ) → Bool
has_all_siblings claim siblings = length siblings == height (proof_count claim.size claim.piece_length)

-- it is the answer, or memory was refused
abbrev pub AnswersUnlessMemory : ℕ → ℕ → Type 0
AnswersUnlessMemory answer result = (result ≡ answer) ⊎ (result ≡ MEMORY)

-- it is the answer to a proof that holds or not. Or memory was refused, for which nothing asks unless all is given
abbrev pub IsTruthAnswer : Bool → Bool → ℕ → Type 0
IsTruthAnswer all_given holds result = (result ≡ truth_answer holds) ⊎ (IsTrue all_given × (result ≡ MEMORY))

-- it is the answer to a proof that holds or not. Or memory was refused, for which nothing asks unless there can be such
-- a file and all is given (profile)
abbrev pub IsProofAnswer : Claim → Bool → Bool → ℕ → Type 0
IsProofAnswer claim all_given holds result =
    (result ≡ proof_answer claim holds) ⊎ (IsNone (claim_fault claim) × IsTrue all_given × (result ≡ MEMORY))
