use Rattle.tor_check.proofs.Names.{◌≡◌, ◌∙◌, true, false, rules, view, kind_of, has_v1, has_v2}
use Rattle.tor_check.proofs.Bounds.{small_listed}
use Rattle.tor_check.proofs.Hybrids.{at_differ, at_end, at_alignment, at_letters, tells_differ, tells_alignment}
use Rattle.tor_check.proofs.Hybrids.{tells_letters}
use Rattle.tor_check.proofs.alignment.judge_alignment.Goals as goal

pub lies_elsewhere-requires-clause-small : goal.lies_elsewhere-requires-clause-small
lies_elsewhere-requires-clause-small c =
    (small_listed (view c.args.head.now.info.now) _
    (c.deref-3.ensures.value ∙ c.requires.sides.listed) c.requires.judged (search rules)).each

pub lies_elsewhere-requires-clause-total : goal.lies_elsewhere-requires-clause-total
lies_elsewhere-requires-clause-total c =
    (small_listed (view c.args.head.now.info.now) _
    (c.deref-3.ensures.value ∙ c.requires.sides.listed) c.requires.judged (search rules)).total

pub returns-then-files_differ-clause-refused : goal.returns-then-files_differ-clause-refused
returns-then-files_differ-clause-refused c =
    let info = view c.args.head.now.info.now in
    let v1 : has_v1 (kind_of info) ≡ true = search rules in
    let v2 : has_v2 (kind_of info) ≡ true = search rules in
    let listed = c.deref.ensures.value ∙ c.requires.sides.listed in
    let files = c.deref-2.ensures.value ∙ c.requires.sides.files in
    at_differ info v1 v2 (tells_differ info _ _ true v1 v2 listed files c.if-files_differ.ensures)

pub returns-then-lies_elsewhere-clause-refused : goal.returns-then-lies_elsewhere-clause-refused
returns-then-lies_elsewhere-clause-refused c =
    let info = view c.args.head.now.info.now in
    let v1 : has_v1 (kind_of info) ≡ true = search rules in
    let v2 : has_v2 (kind_of info) ≡ true = search rules in
    let listed = c.deref.ensures.value ∙ c.requires.sides.listed in
    let files = c.deref-2.ensures.value ∙ c.requires.sides.files in
    let again = c.deref-3.ensures.value ∙ c.requires.sides.listed in
    at_alignment info v1 v2 (tells_differ info _ _ false v1 v2 listed files c.if-files_differ.ensures)
    (tells_alignment info _ _ true v1 again c.requires.piece_length c.if-lies_elsewhere.ensures)

pub returns-then-some_letters_differ-clause-refused : goal.returns-then-some_letters_differ-clause-refused
returns-then-some_letters_differ-clause-refused c =
    let info = view c.args.head.now.info.now in
    let v1 : has_v1 (kind_of info) ≡ true = search rules in
    let v2 : has_v2 (kind_of info) ≡ true = search rules in
    let listed = c.deref.ensures.value ∙ c.requires.sides.listed in
    let files = c.deref-2.ensures.value ∙ c.requires.sides.files in
    let again = c.deref-3.ensures.value ∙ c.requires.sides.listed in
    let listed' = c.deref-4.ensures.value ∙ c.requires.sides.listed in
    let files' = c.deref-5.ensures.value ∙ c.requires.sides.files in
    at_letters info v1 v2 (tells_differ info _ _ false v1 v2 listed files c.if-files_differ.ensures)
    (tells_alignment info _ _ false v1 again c.requires.piece_length c.if-lies_elsewhere.ensures)
    (tells_letters info _ _ true v1 v2 listed' files' c.if-some_letters_differ.ensures)

pub returns-clause-accepted : goal.returns-clause-accepted
returns-clause-accepted c =
    let info = view c.args.head.now.info.now in
    let v1 : has_v1 (kind_of info) ≡ true = search rules in
    let v2 : has_v2 (kind_of info) ≡ true = search rules in
    let listed = c.deref.ensures.value ∙ c.requires.sides.listed in
    let files = c.deref-2.ensures.value ∙ c.requires.sides.files in
    let again = c.deref-3.ensures.value ∙ c.requires.sides.listed in
    let listed' = c.deref-4.ensures.value ∙ c.requires.sides.listed in
    let files' = c.deref-5.ensures.value ∙ c.requires.sides.files in
    at_end info v1 v2 (tells_differ info _ _ false v1 v2 listed files c.if-files_differ.ensures)
    (tells_alignment info _ _ false v1 again c.requires.piece_length c.if-lies_elsewhere.ensures)
    (tells_letters info _ _ false v1 v2 listed' files' c.if-some_letters_differ.ensures)
