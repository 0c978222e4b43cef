-- What each step of a buffer does to the text that is put.
use Rattle.std.proofs.Common.{◌≡◌, ◌∙◌, refl, sym, ap, subst, ℕ, ◌+◌, ◌-◌, ◌≤◌, List, [], ◌++◌, arith, length, take}
use Rattle.std.proofs.Common.{drop}
use Rattle.std.proofs.Common.{append_assoc, append-nil, length-append, length-drop}
use Rattle.std.proofs.Math.Seq.{take-add, take-length, drop-length}
use Rattle.std.proofs.lemmas.List.{take-append-le, drop-append-le, take-append-drop, length-take-le}
use Rattle.tor_report.specs.Sinks.{IsSink, IsStopped}
use Rattle.tor_report.specs.Put.{IsCut, IsFresh, IsPut, Puts, Stops}
use Rattle.tor_report.specs.declared.buffer.Buffer.{Buffer}

module _ {S : Type 0} {took : S → S → List ℕ → Type 0} where
  -- the buffer keeps the text
  pub puts_kept : (text : List ℕ) (out : S) (b b' : Buffer) → b'.held.items ≡ b.held.items ++ text
      → b'.sent ≡ b.sent → Puts took text out b out b'
  puts_kept text out b b' more same = record {
    after = λ start before put.
        record {
          counted = let longer = length-append before text in omega (arith, put.counted, same, longer);
          held =
              more ∙ ap (λ (xs : List ℕ). xs ++ text) put.held ∙ sym (drop-append-le b.sent before text put.counted)
              ∙ ap (λ k. drop k (before ++ text)) (sym same);
          went = rw (same, take-append-le b.sent before text put.counted) put.went;
        };
  }

  pub puts_both : (first second : List ℕ) (out mid out' : S) (b m b' : Buffer) → Puts took first out b mid m
      → Puts took second mid m out' b' → Puts took (first ++ second) out b out' b'
  puts_both first second out mid out' b m b' one two = record {
    after = λ start before put.
        subst (λ (xs : List ℕ). IsPut took start xs out' b') (append_assoc before first second)
        (two.after start (before ++ first) (one.after start before put));
  }

  pub puts_none : (out : S) (b : Buffer) → Puts took [] out b out b
  puts_none out b = record {
    after = λ start before put.
        subst (λ (xs : List ℕ). IsPut took start xs out b) (sym (append-nil before)) put;
  }

module _ {S : Type 0} {took : S → S → List ℕ → Type 0} {fails : S → List ℕ → Type 0} (law : IsSink took fails) where
  -- nothing was put into a buffer that has nothing
  pub put_nothing : (start : S) (b : Buffer) → IsFresh b → IsPut took start [] start b
  put_nothing start b fresh = record {
    counted = omega (arith, fresh.unsent);
    held = fresh.empty ∙ sym (rw fresh.unsent refl);
    went = rw fresh.unsent (law.none start);
  }

  -- all that was put is out
  all_out : (start out out' : S) (before text : List ℕ) (b b' : Buffer) → IsPut took start before out b
      → b'.sent ≡ length (before ++ text) → b'.held.items ≡ [] → took out out' (drop b.sent before ++ text)
      → IsPut took start (before ++ text) out' b'
  all_out start out out' before text b b' put all empty went = record {
    counted = omega (arith, all);
    held = empty ∙ sym (ap (λ k. drop k (before ++ text)) all ∙ drop-length (before ++ text));
    went =
        let joined = law.both start out out' _ _ put.went went in
        let whole : take b.sent before ++ (drop b.sent before ++ text) ≡ take b'.sent (before ++ text) =
        sym (append_assoc (take b.sent before) (drop b.sent before) text)
        ∙ ap (λ (xs : List ℕ). xs ++ text) (take-append-drop b.sent before)
        ∙ sym (ap (λ k. take k (before ++ text)) all ∙ take-length (before ++ text)) in
        subst (took start out') whole joined;
  }

  -- it sends all that it has
  pub puts_held : (out out' : S) (b b' : Buffer) → b'.sent ≡ b.sent + length b.held.items
      → b'.held.items ≡ [] → took out out' b.held.items → Puts took [] out b out' b'
  puts_held out out' b b' count empty went = record {
    after = λ start before put.
        all_out start out out' before [] b b' put
        (let size = ap length put.held ∙ length-drop b.sent before in
        let same = ap length (append-nil before) in omega (arith, count, size, same, put.counted))
        empty (subst (took out out') (put.held ∙ sym (append-nil (drop b.sent before))) went);
  }

  -- the text passes a buffer that has nothing
  pub puts_past : (text : List ℕ) (out out' : S) (b b' : Buffer) → b.held.items ≡ []
      → b'.sent ≡ b.sent + length text → b'.held.items ≡ b.held.items → took out out' text
      → Puts took text out b out' b'
  puts_past text out out' b b' none count same went = record {
    after = λ start before put.
        all_out start out out' before text b b' put
        (let size = ap length (sym none ∙ put.held) ∙ length-drop b.sent before in
        let longer = length-append before text in omega (arith, count, size, longer, put.counted))
        (same ∙ none) (subst (λ (xs : List ℕ). took out out' (xs ++ text)) (sym none ∙ put.held) went);
  }

  -- what went out of the text so far is a front of a longer one
  pub longer_front : (start out : S) (written : ℕ) (xs ys : List ℕ) → IsStopped took fails start out written xs
      → IsStopped took fails start out written (xs ++ ys)
  longer_front start out written xs ys front =
      let longer = length-append xs ys in
      let inside : written ≤ length xs = omega (arith, front.0) in (
        omega (arith, front.0, longer),
        rw (take-append-le written xs ys inside) front.1,
        law.sooner start xs ys front.2,
      )

  fails_whole : (start out : S) (sent : ℕ) (whole rest : List ℕ) → sent ≤ length whole → rest ≡ drop sent whole
      → took start out (take sent whole) → ((begin : S) → (front : List ℕ) → length front ≡ sent
      → took begin out front → fails begin (front ++ rest)) → fails start whole
  fails_whole start out sent whole rest within same went why =
      subst (fails start)
      (ap (λ (xs : List ℕ). take sent whole ++ xs) same ∙ take-append-drop sent whole)
      (why start (take sent whole) (length-take-le sent whole within) went)

  cut_front : (start out out' : S) (sent written : ℕ) (whole rest : List ℕ) → sent ≤ length whole
      → rest ≡ drop sent whole → took start out (take sent whole) → IsCut took fails out sent rest out' written
      → IsStopped took fails start out' written whole
  cut_front start out out' sent written whole rest within same went cut =
      let size = ap length same ∙ length-drop sent whole in
      let split : sent + (written - sent) ≡ written = omega (arith, cut.later) in
      let joined = law.both start out out' _ _ went cut.went in
      let front : take sent whole ++ take (written - sent) rest ≡ take written whole =
      ap (λ (xs : List ℕ). take sent whole ++ take (written - sent) xs) same
      ∙ sym (take-add sent (written - sent) whole)
      ∙ ap (λ k. take k whole) split in (
        omega (arith, cut.earlier, size, within),
        subst (took start out') front joined,
        fails_whole start out sent whole rest within same went cut.why,
      )

  -- a fault while it sends what it has
  pub stops_held : (out out' : S) (b : Buffer) (written : ℕ) → IsCut took fails out b.sent b.held.items out' written
      → Stops took fails [] out b out' written
  stops_held out out' b written cut = record {
    after = λ start before put.
        longer_front start out' written before []
        (cut_front start out out' b.sent written before b.held.items put.counted put.held put.went cut);
  }

  -- a fault while the text passes a buffer that has nothing
  pub stops_past : (text : List ℕ) (out out' : S) (b : Buffer) (written : ℕ) → b.held.items ≡ []
      → IsCut took fails out b.sent text out' written → Stops took fails text out b out' written
  stops_past text out out' b written none cut = record {
    after = λ start before put.
        let longer = length-append before text in
        let within : b.sent ≤ length (before ++ text) = omega (arith, put.counted, longer) in
        let rest : text ≡ drop b.sent (before ++ text) =
        ap (λ (xs : List ℕ). xs ++ text) (sym none ∙ put.held) ∙ sym (drop-append-le b.sent before text put.counted) in
        cut_front start out out' b.sent written (before ++ text) text within rest
        (rw (take-append-le b.sent before text put.counted) put.went) cut;
  }

  pub stops_sooner : (first second : List ℕ) (out out' : S) (b : Buffer) (written : ℕ)
      → Stops took fails first out b out' written → Stops took fails (first ++ second) out b out' written
  stops_sooner first second out out' b written stop = record {
    after = λ start before put.
        subst (IsStopped took fails start out' written) (append_assoc before first second)
        (longer_front start out' written (before ++ first) second (stop.after start before put));
  }

  pub stops_later : (first second : List ℕ) (out mid out' : S) (b m : Buffer) (written : ℕ)
      → Puts took first out b mid m → Stops took fails second mid m out' written
      → Stops took fails (first ++ second) out b out' written
  stops_later first second out mid out' b m written one stop = record {
    after = λ start before put.
        subst (IsStopped took fails start out' written) (append_assoc before first second)
        (stop.after start (before ++ first) (one.after start before put));
  }
