-- Two different hashes at one index under one root: on the way up, different texts have one hash.
use Rattle.tor_merkle.proofs.Names.{◌≡◌, ◌≢◌, ℕ, ◌+◌, ◌/◌, ◌%◌, ◌<◌, ◌≤◌, min, List, [], ◌∷◌, ◌++◌, length, get_or}
use Rattle.tor_merkle.proofs.Names.{take, drop, cond, eqb, IsTrue, arith, refl, ap, ap₂, ◌∙◌, sym, inl, inr, and_parts}
use Rattle.tor_merkle.proofs.Names.{cases_eq, cond-true, cond-false, eq-eqb, ne_eqb, eqb-true, take_at, drop_at}
use Rattle.tor_merkle.proofs.Names.{drop_all, drop_more, bytes_eq-Decides, sha256, proof_root, is_proof, node_of}
use Rattle.tor_merkle.proofs.Names.{height}
use Rattle.tor_merkle.proofs.ProofRoots.{proof_root-none, proof_root-left, proof_root-right}

-- the bytes of a hash and its sibling
abbrev pub text_of : ℕ → List ℕ → List ℕ → List ℕ
text_of index hash sibling = cond (eqb (index % 2) 0) (hash ++ sibling) (sibling ++ hash)

text_left : (index : ℕ) (hash sibling : List ℕ) → index % 2 ≡ 0 → text_of index hash sibling ≡ hash ++ sibling
text_left index hash sibling even = cond-true _ _ _ (eq-eqb (index % 2) 0 even)

text_right : (index : ℕ) (hash sibling : List ℕ) → (index % 2 ≡ 0 → ⊥)
    → text_of index hash sibling ≡ sibling ++ hash
text_right index hash sibling odd = cond-false _ _ _ (ne_eqb (index % 2) 0 odd)

-- texts of different hashes differ
pub texts_apart : (index : ℕ) (hash sibling other other_sibling : List ℕ)
    → length hash ≡ 32 → length sibling ≡ 32 → length other ≡ 32 → length other_sibling ≡ 32
    → hash ≢ other → text_of index hash sibling ≢ text_of index other other_sibling
texts_apart index hash sibling other other_sibling a b d e apart same = elim (cases_eq (index % 2) 0) [
  | inl even ↦
      apart (sym (take_at hash sibling 32 a)
      ∙ ap (take 32) (sym (text_left index hash sibling even) ∙ same ∙ text_left index other other_sibling even)
      ∙ take_at other other_sibling 32 d)
  | inr odd ↦
      apart (sym (drop_at sibling hash 32 b)
      ∙ ap (drop 32) (sym (text_right index hash sibling odd) ∙ same ∙ text_right index other other_sibling odd)
      ∙ drop_at other_sibling other 32 e)
]

-- what a proof says
proof_parts : (root : List ℕ) (count level index : ℕ) (hash : List ℕ) (siblings : List (List ℕ))
    → IsTrue (is_proof root count level index hash siblings)
    → (length siblings ≡ height count) × (proof_root hash index siblings ≡ root)
proof_parts root count level index hash siblings proof =
    let outer = and_parts _ _ proof in
    let inner = and_parts _ _ (and_parts _ _ outer.0).0 in
    (eqb-true _ _ inner.1, (bytes_eq-Decides _ _).0 outer.1)

-- a walk of a hash past so many siblings, to a node at an index
pub record IsWalk (index : ℕ) (hash : List ℕ) (siblings : List (List ℕ)) (passed node_index : ℕ) (node : List ℕ)
    : Type 0 where
  pub root : proof_root node node_index (drop passed siblings) ≡ proof_root hash index siblings

-- it begins at the hash
pub walk_begins : (index : ℕ) (hash : List ℕ) (siblings : List (List ℕ)) → IsWalk index hash siblings 0 index hash
walk_begins index hash siblings = record { root = refl }

-- one level up
pub walk_goes_up : (index : ℕ) (hash : List ℕ) (siblings : List (List ℕ)) (passed node_index : ℕ)
    (node sibling above text : List ℕ) (after : ℕ)
    → IsWalk index hash siblings passed node_index node → passed < length siblings → sibling ≡ get_or siblings passed []
    → text ≡ text_of node_index node sibling → above ≡ sha256 text → after ≡ passed + 1
    → IsWalk index hash siblings after (node_index / 2) above
unfolding node_of
walk_goes_up index hash siblings passed node_index node sibling above text after walk inside read is up more =
    let later = drop after siblings in
    let next : drop passed siblings ≡ sibling ∷ later =
    drop_more siblings passed [] inside ∙ ap₂ (λ x n. x ∷ drop n siblings) (sym read) (sym more) in
    let before = ap (proof_root node node_index) (sym next) ∙ walk.root in
    elim (cases_eq (node_index % 2) 0) [
      | inl even ↦ record {
        root =
            ap (λ x. proof_root x (node_index / 2) later) (up ∙ ap sha256 (is ∙ text_left node_index node sibling even))
            ∙ sym (proof_root-left node node_index sibling later even) ∙ before;
      }
      | inr odd ↦ record {
        root =
            ap (λ x. proof_root x (node_index / 2) later) (up ∙ ap sha256 (is ∙ text_right node_index node sibling odd))
            ∙ sym (proof_root-right node node_index sibling later odd) ∙ before;
      }
    ]

-- at its end it is at the root that the hash and its siblings name
walk_ends : (index : ℕ) (hash : List ℕ) (siblings : List (List ℕ)) (passed node_index : ℕ) (node : List ℕ)
    → IsWalk index hash siblings passed node_index node → length siblings ≤ passed
    → node ≡ proof_root hash index siblings
walk_ends index hash siblings passed node_index node walk all =
    sym (proof_root-none node node_index) ∙ ap (proof_root node node_index) (sym (drop_all passed siblings all))
    ∙ walk.root

-- two walks under one root end in one node
pub walks_meet : (index passed node_index : ℕ) (hash node other other_node : List ℕ)
    (siblings other_siblings : List (List ℕ)) (root : List ℕ) (count level : ℕ)
    → IsWalk index hash siblings passed node_index node → IsWalk index other other_siblings passed node_index other_node
    → passed ≡ min (length siblings) (length other_siblings)
    → IsTrue (is_proof root count level index hash siblings)
    → IsTrue (is_proof root count level index other other_siblings) → node ≡ other_node
walks_meet index passed node_index hash node other other_node siblings other_siblings root count level
    walk other_walk end proof other_proof =
    let one = proof_parts root count level index hash siblings proof in
    let two = proof_parts root count level index other other_siblings other_proof in
    let first = walk_ends index hash siblings passed node_index node walk (omega (arith, one.0, two.0)) in
    let second =
    walk_ends index other other_siblings passed node_index other_node other_walk (omega (arith, one.0, two.0)) in
    first ∙ one.1 ∙ sym (second ∙ two.1)
