-- What the program prints of single pieces: the proof of one of a torrent in a file, and whether a proof in a file
-- holds. No contract says which bytes a file has, so a clause speaks of some bytes: those that the program took for the
-- file's.
use Rattle.std.specs.Prelude.{◌≡◌, ◌≤◌, ◌<◌, ◌↔◌, ℕ, Bool, true, false, List, codes, Option, Some, None}
use Rattle.std.specs.Prelude.{IsSomeAnd, IsTrue, option_map, slice_get}
use Rattle.std.specs.Io.KnownBytes.{Appends}
use Rattle.tor_bencode.specs.Data.{Data}
use Rattle.tor_bencode.specs.Spelling.{base_ten}
use Rattle.tor_check.specs.PieceProofs.{IsPieceProof, piece_refusal}
use Rattle.tor_merkle.specs.Layer.{IsPieceLength}
use Rattle.tor_merkle.specs.Proof.{is_proof, proof_count, proof_level}
use Rattle.tor_merkle.specs.declared.TheConstants.{MAX_LENGTH}
use Rattle.tor_view.specs.PieceBytes.{IsPiece}
use Rattle.tor_spec.specs.valid.Conditions.{IsTorrentOf}
use Rattle.tor_spec.specs.valid.View.{FileView, view_of}
use Rattle.tor_cli.specs.Foreign.{IsNoTorrent, OfSome}
use Rattle.tor_spec.specs.Output.{IsFront}
use Rattle.tor_cli.specs.proof.ProofText.{IsProof, IsRootText, proof_text}
use Rattle.tor_cli.specs.Streams.{IsUntouched, Streams}
use Rattle.tor_cli.specs.declared.answer.Answer.{Answer}
use Rattle.tor_cli.specs.declared.answer.Answer.TheVariants.{Yes, No}
use Rattle.tor_cli.specs.declared.proof.claim.Claim.{Claim}
use Rattle.tor_cli.specs.declared.proof.claim.ArgumentFault.{ArgumentFault}
use Rattle.tor_cli.specs.declared.proof.claim.ArgumentFault.TheVariants as arguments
use Rattle.tor_cli.specs.declared.fault.Fault.{Fault}
use Rattle.tor_cli.specs.declared.fault.Fault.TheVariants.{Refused, Piece, Argument, Read, TooLong, Write, Resources}
use Rattle.tor_cli.specs.declared.proof.words.ProveOptions.{ProveOptions}
use Rattle.tor_cli.specs.declared.proof.words.VerifyOptions.{VerifyOptions}

-- the text is that of a proof of this piece
abbrev pub IsTextOfPiece : ℕ → ℕ → List ℕ → FileView → Type 0
IsTextOfPiece piece_length index text told = (hash : List ℕ) × (siblings : List (List ℕ))
    × IsPieceProof piece_length told index hash siblings × IsProof index hash siblings
    × (text ≡ proof_text index hash siblings)

-- the text is the proof of a piece of the torrent that the bytes are (profile)
pub record IsProofOf (file index : ℕ) (bytes text : List ℕ) : Type 0 where
  pub root : Data
  pub torrent : IsTorrentOf root bytes
  pub accepted : piece_refusal (view_of root) file index ≡ None
  pub proved : IsSomeAnd (slice_get (view_of root).files file) (IsTextOfPiece (view_of root).piece_length index text)

-- why there is none; want of memory is no refusal
abbrev pub IsNotProved : ℕ → ℕ → List ℕ → Fault → Type 0
IsNotProved file index bytes (Refused refusal) = IsNoTorrent bytes (Refused refusal)
IsNotProved file index bytes (Piece error) =
    (root : Data) × IsTorrentOf root bytes × (piece_refusal (view_of root) file index ≡ Some error)
IsNotProved file index bytes Resources = Unit {0}
IsNotProved file index bytes other = ⊥

-- the proof of this piece of some torrent, of whose text this holds
abbrev pub ProvesOfSome : ProveOptions → (List ℕ → Type 0) → Type 0
ProvesOfSome options Holds =
    OfSome (λ bytes. (text : List ℕ) × IsProofOf options.file options.index bytes text × Holds text)

-- what is written for a proof. It is the text of the proof, and nothing else (profile)
abbrev pub DoesProve : ProveOptions → Streams → Type 0
DoesProve options s = (s.reader' ≡ s.reader) × ProvesOfSome options (Appends s.writer s.writer')

-- if this fault stopped it (profile)
abbrev pub StopsProving : ProveOptions → Streams → Fault → Type 0
StopsProving options s (Refused refusal) =
    OfSome (λ bytes. IsNotProved options.file options.index bytes (Refused refusal)) × IsUntouched s
StopsProving options s (Piece error) =
    OfSome (λ bytes. IsNotProved options.file options.index bytes (Piece error)) × IsUntouched s
StopsProving options s (Read fault) = IsUntouched s
StopsProving options s TooLong = IsUntouched s
StopsProving options s (Write written) =
    (s.reader' ≡ s.reader) × ProvesOfSome options (IsFront s.writer s.writer' written)
StopsProving options s Resources = IsUntouched s
StopsProving options s other = ⊥

-- the text is the shortest digits of a length that a file of a tree may have
abbrev pub IsLengthText : List ℕ → ℕ → Type 0
IsLengthText text n = (text ≡ base_ten n) × (0 < n) × (n ≤ MAX_LENGTH)

-- the text is the shortest digits of a piece length
abbrev pub IsPieceLengthText : List ℕ → ℕ → Type 0
IsPieceLengthText text n = (text ≡ base_ten n) × IsPieceLength n

-- what the words claim that the proof is for
pub record IsClaimIn (options : VerifyOptions) (claim : Claim) : Type 0 where
  pub root : IsRootText options.root.now claim.root
  pub length : IsLengthText options.length.now claim.length
  pub piece_length : IsPieceLengthText options.piece_length.now claim.piece_length

-- of nothing does this hold
abbrev pub OfNone : {X : Type 0} → (X → Type 0) → Type 0
OfNone {X = X} Holds = (x : X) → Holds x → ⊥

-- the first word of `verify` that has no root, length or piece length (profile)
abbrev pub IsBadClaim : VerifyOptions → ArgumentFault → Type 0
IsBadClaim options arguments.Root = OfNone (IsRootText options.root.now)
IsBadClaim options arguments.Length =
    ((root : List ℕ) × IsRootText options.root.now root) × OfNone (IsLengthText options.length.now)
IsBadClaim options arguments.PieceLength =
    ((root : List ℕ) × IsRootText options.root.now root) × ((n : ℕ) × IsLengthText options.length.now n)
    × OfNone (IsPieceLengthText options.piece_length.now)
IsBadClaim options arguments.Proof = ⊥
IsBadClaim options arguments.Attrs = ⊥
IsBadClaim options arguments.Files = ⊥

-- the answer to a proof
abbrev pub holds_in : Claim → ℕ → List ℕ → List (List ℕ) → Bool
holds_in claim index hash siblings =
    is_proof claim.root (proof_count claim.length claim.piece_length) (proof_level claim.length claim.piece_length)
    index hash siblings

abbrev pub answer_of : Bool → Answer
answer_of true = Yes
answer_of false = No

-- the answer to the proof that the bytes have. They are its text (profile)
abbrev pub IsAnswered : Claim → List ℕ → Answer → Type 0
IsAnswered claim bytes answer = (index : ℕ) × (hash : List ℕ) × (siblings : List (List ℕ))
    × IsProof index hash siblings × (proof_text index hash siblings ≡ bytes)
    × (answer ≡ answer_of (holds_in claim index hash siblings))

-- the same, if the bytes of the piece are judged too: yes exactly if the proof holds, and they are as many as the piece
-- has and have its hash (profile)
pub record IsAnsweredOf (claim : Claim) (bytes piece : List ℕ) (answer : Answer) : Type 0 where
  pub index : ℕ
  pub hash : List ℕ
  pub siblings : List (List ℕ)
  pub is : IsProof index hash siblings
  pub text : proof_text index hash siblings ≡ bytes
  pub answered : (answer ≡ Yes) ↔ (IsTrue (holds_in claim index hash siblings)
      × IsPiece claim.length claim.piece_length index hash piece)

-- the answer to the proof that the bytes have, with those of the piece or without them
abbrev pub IsAnsweredWith : Claim → List ℕ → Option (List ℕ) → Answer → Type 0
IsAnsweredWith claim bytes None answer = IsAnswered claim bytes answer
IsAnsweredWith claim bytes (Some piece) answer = IsAnsweredOf claim bytes piece answer

-- some bytes of the piece, if the words name a file that has them
abbrev pub OfPieceBytes : Option (List ℕ) → (Option (List ℕ) → Type 0) → Type 0
OfPieceBytes None Holds = Holds None
OfPieceBytes (Some place) Holds = OfSome (λ piece. Holds (Some piece))

-- the file that has them
abbrev pub file_of_piece : VerifyOptions → Option (List ℕ)
file_of_piece options = option_map (λ place. place.now) options.bytes

-- they are the text of none
abbrev pub IsNoProof : List ℕ → Type 0
IsNoProof bytes = (index : ℕ) (hash : List ℕ) (siblings : List (List ℕ)) → IsProof index hash siblings
    → proof_text index hash siblings ≡ bytes → ⊥

-- the line of an answer
abbrev pub answer_line : Answer → List ℕ
answer_line Yes = codes "yes\n"
answer_line No = codes "no\n"

-- the answer to the proof that some bytes have, by what the words claim; of its line this holds
abbrev pub AnswersOfSome : VerifyOptions → Answer → (List ℕ → Type 0) → Type 0
AnswersOfSome options answer Holds = (claim : Claim) × IsClaimIn options claim
    × OfSome (λ bytes. OfPieceBytes (file_of_piece options) (λ piece. IsAnsweredWith claim bytes piece answer))
    × Holds (answer_line answer)

-- what is written for an answer. It is its line, and nothing else (profile)
abbrev pub DoesVerify : VerifyOptions → Answer → Streams → Type 0
DoesVerify options answer s = (s.reader' ≡ s.reader) × AnswersOfSome options answer (Appends s.writer s.writer')

-- a claim was read in the words
abbrev pub IsClaimed : VerifyOptions → Type 0
IsClaimed options = (claim : Claim) × IsClaimIn options claim

-- if this fault stopped it (profile)
abbrev pub StopsVerifying : VerifyOptions → Streams → Fault → Type 0
StopsVerifying options s (Argument arguments.Proof) = IsClaimed options × OfSome IsNoProof × IsUntouched s
StopsVerifying options s (Argument fault) = IsBadClaim options fault × IsUntouched s
StopsVerifying options s (Read fault) = IsClaimed options × IsUntouched s
StopsVerifying options s TooLong = IsClaimed options × IsUntouched s
StopsVerifying options s (Write written) = (s.reader' ≡ s.reader)
    × ((answer : Answer) × AnswersOfSome options answer (IsFront s.writer s.writer' written))
StopsVerifying options s Resources = IsUntouched s
StopsVerifying options s other = ⊥
