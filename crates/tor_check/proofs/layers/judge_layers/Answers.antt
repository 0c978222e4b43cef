use Rattle.tor_check.proofs.Names.{◌≡◌, ◌∙◌, true, false, ap, refl, rules, sym, unwrap_or, dictionary, no_pairs, view}
use Rattle.tor_check.proofs.Names.{info_of, kind_of, has_v2, layers_of, seen, tree_files}
use Rattle.tor_check.proofs.Bounds.{small_files}
use Rattle.tor_check.proofs.LayerSteps.{fault_told, no_faulty_told}
use Rattle.tor_spec.specs.valid.Layers.{layers_absent}
use Rattle.tor_check.proofs.layers.judge_layers.Goals as goal

pub has_faulty-requires-clause-small : goal.has_faulty-requires-clause-small
has_faulty-requires-clause-small c =
    small_files (info_of (view c.args.root.now)) _ (c.deref-2.ensures.value ∙ c.requires.sides.files) c.requires.judged
    (search rules)

pub returns-clause-accepted : goal.returns-clause-accepted
returns-clause-accepted c =
    let root = view c.args.root.now in
    let v2 : has_v2 (kind_of (info_of root)) ≡ true = search rules in
    let length = c.layers_of-layers.ensures.piece_length ∙ c.requires.head.piece_length in
    let layers : seen c.layers_of-layers.result ≡ layers_of root =
    ap (λ some. unwrap_or some (dictionary no_pairs)) c.layers_of-layers.ensures.item in
    let files : c.deref-2.result.now ≡ tree_files (info_of root) =
    rw v2 at (c.deref-2.ensures.value ∙ c.requires.sides.files) in
    let first : c.deref.result.now ≡ tree_files (info_of root) =
    rw v2 at (c.deref.ensures.value ∙ c.requires.sides.files) in
    let absent : layers_absent root ≡ false =
    sym (rw (length, first, c.layers_of-layers.ensures.item) at c.lacks_layers.ensures) ∙ c.if-lacks_layers.false in
    let none =
    no_faulty_told _ _ _ _ _ _ length layers files (search rules) (sym c.has_faulty.ensures ∙ c.if-has_faulty.false) in
    rw (v2, absent, none.0, none.1, none.2) refl

pub returns-then-has_faulty-clause-refused : goal.returns-then-has_faulty-clause-refused
returns-then-has_faulty-clause-refused c =
    let root = view c.args.root.now in
    let v2 : has_v2 (kind_of (info_of root)) ≡ true = search rules in
    let length = c.layers_of-layers.ensures.piece_length ∙ c.requires.head.piece_length in
    let layers : seen c.layers_of-layers.result ≡ layers_of root =
    ap (λ some. unwrap_or some (dictionary no_pairs)) c.layers_of-layers.ensures.item in
    let files : c.deref-2.result.now ≡ tree_files (info_of root) =
    rw v2 at (c.deref-2.ensures.value ∙ c.requires.sides.files) in
    let first : c.deref.result.now ≡ tree_files (info_of root) =
    rw v2 at (c.deref.ensures.value ∙ c.requires.sides.files) in
    let absent : layers_absent root ≡ false =
    sym (rw (length, first, c.layers_of-layers.ensures.item) at c.lacks_layers.ensures) ∙ c.if-lacks_layers.false in
    let told = c.fault_of.ensures in
    let again = c.deref-then-has_faulty.ensures.value ∙ sym c.deref-2.ensures.value in
    rw (v2, absent) (fault_told _ _ _ _ _ _ length layers files c.fault_of.result
    (sym c.has_faulty.ensures ∙ c.if-has_faulty.true) (rw again at told.absent) (rw again at told.misshaped)
    (rw again at told.other))
