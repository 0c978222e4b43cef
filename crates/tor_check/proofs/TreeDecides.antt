-- The first fault of the v2 side is that of its file tree.
use Rattle.tor_check.proofs.Names.{◌≡◌, true, false, Bool, Option, None, Some, cond, codes, refl, ap, ◌∙◌, option_map}
use Rattle.tor_check.proofs.Names.{Data, value_of, of_tree_fault, refusal_for, Names, first_of_tree, Condition}
use Rattle.tor_check.proofs.Names.{tree_fault, TreeFault}
use Rattle.tor_spec.specs.valid.Conditions as conditions
use Rattle.tor_tree.specs.declared.tree_file.TreeFault.TheVariants as trees

-- the fault of a tree, and the first condition, from seven tests of it
abbrev fault_by : Bool → Bool → Bool → Bool → Bool → Bool → Bool → Option TreeFault
fault_by shape negative none large link mixed root =
    cond shape (Some trees.Shape) (cond negative (Some trees.Length) (cond none (Some trees.Empty)
    (cond large (Some trees.TooLarge) (cond link (Some trees.Symlink) (cond mixed (Some trees.Mixed)
    (cond root (Some trees.Root) None))))))

abbrev first_by : Bool → Bool → Bool → Bool → Bool → Bool → Bool → Option Condition
first_by shape negative none large link mixed root =
    cond shape (Some conditions.FileShape) (cond negative (Some conditions.FileLength)
    (cond none (Some conditions.NoFiles) (cond large (Some conditions.TooLarge) (cond link (Some conditions.Symlink)
    (cond mixed (Some conditions.MixedNode) (cond root (Some conditions.RootHash) None))))))

decided : (shape negative none large link mixed root : Bool)
    → option_map refusal_for (first_by shape negative none large link mixed root)
    ≡ option_map of_tree_fault (fault_by shape negative none large link mixed root)
decided true negative none large link mixed root = refl
decided false true none large link mixed root = refl
decided false false true large link mixed root = refl
decided false false false true link mixed root = refl
decided false false false false true mixed root = refl
decided false false false false false true root = refl
decided false false false false false false true = refl
decided false false false false false false false = refl

named_by_tree : (info tree : Data) → Some tree ≡ value_of (codes "file tree") info
    → option_map refusal_for (first_of_tree info) ≡ option_map of_tree_fault (tree_fault tree)
named_by_tree info tree found = rw (← found) (decided _ _ _ _ _ _ _)

pub at_tree_fault : (info tree : Data) (fault : TreeFault) → Some tree ≡ value_of (codes "file tree") info
    → tree_fault tree ≡ Some fault → Names (first_of_tree info) (of_tree_fault fault)
at_tree_fault info tree fault found e = named_by_tree info tree found ∙ ap (option_map of_tree_fault) e

-- what has no refusal is no condition
none_named : (first : Option Condition) → option_map refusal_for first ≡ None → first ≡ None
none_named None e = refl
none_named (Some condition) e = absurd cc

pub at_tree_end : (info tree : Data) → Some tree ≡ value_of (codes "file tree") info → tree_fault tree ≡ None
    → first_of_tree info ≡ None
at_tree_end info tree found none =
    none_named (first_of_tree info) (named_by_tree info tree found ∙ ap (option_map of_tree_fault) none)
