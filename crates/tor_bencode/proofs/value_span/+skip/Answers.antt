use Rattle.tor_bencode.proofs.Names.{◌≡◌, ◌≤◌, length, get_or, ◌∷◌, ap, subst, arith, ItemsAreLawfulWithin}
use Rattle.tor_bencode.proofs.Names.{items_spelling, length-append}
use Rattle.tor_bencode.proofs.Numerals.{digit_from_range}
use Rattle.tor_bencode.proofs.Lawfulness.{lawful-item}
use Rattle.tor_bencode.proofs.Skips.{skip_integer, skip_no_integer, skip_string, skip_no_string, skip_too_deep}
use Rattle.tor_bencode.proofs.Skips.{opened_values, next_item, end_after, no_head, not_empty, two_heads}
use Rattle.tor_bencode.proofs.value_span.+skip.Goals.{skip-in_default-via-then-bytes-lt48}
use Rattle.tor_bencode.proofs.value_span.+skip.Goals.{skip-in_default-via-else-bytes-lt48+else-bytes-lt58}
use Rattle.tor_bencode.proofs.value_span.+skip.Goals as goal

pub skip-returns-then-room-eq0-clause-skipped : goal.skip-returns-then-room-eq0-clause-skipped
skip-returns-then-room-eq0-clause-skipped t c =
    λ d after lawful is. skip_too_deep d c.args.room c.args.bytes.now after lawful is c.if-room-eq0.true (omega arith)
    (two_heads (get_or c.args.bytes.now 0 0) (λ other. omega arith))

pub skip-returns-in-Ok-clause-skipped : goal.skip-returns-in-Ok-clause-skipped
skip-returns-in-Ok-clause-skipped t c =
    λ d after lawful is. skip_integer d c.args.room c.args.bytes.now after lawful is (omega arith) (omega arith)
    (c.in-Ok.field-0-0, c.in-Ok.after.now) c.in-Ok.ensures.read

pub skip-returns-in-Err-clause-skipped : goal.skip-returns-in-Err-clause-skipped
skip-returns-in-Err-clause-skipped t c =
    λ d after lawful is. skip_no_integer d c.args.room c.args.bytes.now after lawful is (omega arith)
    (omega arith) c.in-Err.field-0 c.in-Err.ensures.no_memory c.in-Err.ensures.read

pub skip-returns-else-room-eq0-clause-skipped : goal.skip-returns-else-room-eq0-clause-skipped
skip-returns-else-room-eq0-clause-skipped t c =
    λ d after lawful is.
    let inside =
    opened_values d c.args.room c.args.bytes.now after lawful is
    (two_heads (get_or c.args.bytes.now 0 0) (λ other. omega arith)) in
    c.skip_all.ensures.skipped inside.0 after inside.1 inside.2

pub skip-returns-in-Ok-string-clause-skipped : goal.skip-returns-in-Ok-string-clause-skipped
skip-returns-in-Ok-string-clause-skipped t c =
    let low : 48 ≤ get_or c.args.bytes.now 0 0 = omega arith in
    let high : get_or c.args.bytes.now 0 0 ≤ 57 = omega arith in
    λ d after lawful is. skip_string d c.args.room c.args.bytes.now after lawful is
    (omega arith) (digit_from_range _ low high)
    (c.in-Ok-string.field-0-0.now, c.in-Ok-string.after.now) c.in-Ok-string.ensures.read

pub skip-returns-in-Err-string-clause-skipped : goal.skip-returns-in-Err-string-clause-skipped
skip-returns-in-Err-string-clause-skipped t c =
    let low : 48 ≤ get_or c.args.bytes.now 0 0 = omega arith in
    let high : get_or c.args.bytes.now 0 0 ≤ 57 = omega arith in
    λ d after lawful is. skip_no_string d c.args.room c.args.bytes.now after lawful is (omega arith)
    (digit_from_range _ low high) c.in-Err-string.field-0 c.in-Err-string.ensures.no_memory
    c.in-Err-string.ensures.read

pub skip-returns-in_default-clause-skipped : goal.skip-returns-in_default-clause-skipped
skip-returns-in_default-clause-skipped t c =
    λ d after lawful is.
    elim c.in_default.branch [
      | skip-in_default-via-then-bytes-lt48 w ↦ no_head d c.args.bytes.now after is (λ e. absurd (omega arith))
          (λ e. absurd (omega arith)) (λ e. absurd (omega arith)) (λ low high. absurd (omega arith))
      | skip-in_default-via-else-bytes-lt48+else-bytes-lt58 w ↦
          no_head d c.args.bytes.now after is (λ e. absurd (grind arith)) (λ e. absurd (grind arith))
          (λ e. absurd (grind arith)) (λ low high. absurd (omega arith))
    ]

pub skip-returns-in-empty-clause-skipped : goal.skip-returns-in-empty-clause-skipped
skip-returns-in-empty-clause-skipped t c =
    λ d after lawful is. not_empty d c.args.bytes.now after is (omega arith)

pub skip_all-returns-in-101-clause-skipped : goal.skip_all-returns-in-101-clause-skipped
skip_all-returns-in-101-clause-skipped t c =
    λ items after lawful is.
    let left = c.values.invariant.1 items after lawful is in
    end_after left.0 c.values.rest.now after left.2 (omega arith)

pub skip_all-returns-in_err-rest-clause-skipped : goal.skip_all-returns-in_err-rest-clause-skipped
skip_all-returns-in_err-rest-clause-skipped t c =
    let other : get_or c.values.rest.now 0 0 ≡ 101 → ⊥ = omega arith in
    λ items after lawful is.
    let left = c.values.invariant.1 items after lawful is in
    let next = next_item left.0 c.values.rest.now after left.2 other in
    let parts = (lawful-item c.args.room next.0 next.1).0 (subst (ItemsAreLawfulWithin c.args.room) next.2 left.1) in
    absurd (c.in_err-rest.ensures.skipped next.0 _ parts.0 next.3)

pub skip_all-returns-in-empty-clause-skipped : goal.skip_all-returns-in-empty-clause-skipped
skip_all-returns-in-empty-clause-skipped t c =
    λ items after lawful is.
    let left = c.values.invariant.1 items after lawful is in
    absurd (omega (arith, ap length left.2, length-append (items_spelling left.0) (101 ∷ after)))

pub skip_all-values-preserved : goal.skip_all-values-preserved
skip_all-values-preserved t c =
    let other : get_or c.values.rest.now 0 0 ≡ 101 → ⊥ = omega arith in (
      omega (arith, c.in_ok-rest.ensures.shorter),
      λ items after lawful is.
          let left = c.values.invariant.1 items after lawful is in
          let next = next_item left.0 c.values.rest.now after left.2 other in
          let parts =
          (lawful-item c.args.room next.0 next.1).0 (subst (ItemsAreLawfulWithin c.args.room) next.2 left.1) in
          (next.1, parts.1, c.in_ok-rest.ensures.skipped next.0 _ parts.0 next.3),
    )
