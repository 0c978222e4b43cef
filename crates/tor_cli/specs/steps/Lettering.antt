-- Why files get no letters by some bytes, and one file no order. Only private clauses cite this.
use Rattle.std.specs.Prelude.{◌≡◌, ◌∷◌, [], ℕ, List, None, Some}
use Rattle.tor_tree.specs.Name.{name_fault}
use Rattle.tor_cli.specs.make.Attrs.{AreBadAttrs, IsNotLettered}
use Rattle.tor_cli.specs.make.Request.{attrs_of}
use Rattle.tor_cli.specs.declared.proof.claim.ArgumentFault.TheVariants.{Attrs}
use Rattle.tor_cli.specs.declared.fault.Fault.{Fault}
use Rattle.tor_cli.specs.declared.fault.Fault.TheVariants.{Argument, Name, Resources}
use Rattle.tor_cli.specs.declared.make.options.MakeOptions.{MakeOptions}

abbrev pub IsNotLetteredBy : List ℕ → List (List (List ℕ)) → Fault → Type 0
IsNotLetteredBy bytes paths (Argument Attrs) = AreBadAttrs paths bytes
IsNotLetteredBy bytes paths Resources = Unit {0}
IsNotLetteredBy bytes paths other = ⊥

abbrev pub IsNotOrdered : MakeOptions → Fault → Type 0
IsNotOrdered options Resources = Unit {0}
IsNotOrdered options (Name fault) = name_fault options.name.now ≡ Some fault
IsNotOrdered options fault =
    (name_fault options.name.now ≡ None) × IsNotLettered (attrs_of options) ((options.name.now ∷ []) ∷ []) fault
