-- The tiers are those of the value.
use Rattle.std.proofs.Common.{◌∙◌, subst, sym}
use Rattle.std.specs.Prelude.{IfErr, OnOk}
use Rattle.serde_json.specs.Data.{Data}
use Rattle.serde_json.specs.Written.{compact_text}
use Rattle.tor_bencode.specs.RefView.{view}
use Rattle.tor_report.specs.Put.{Puts, Stops}
use Rattle.tor_report.specs.Servers.{are_tiers, tiers_data}
use Rattle.tor_report.proofs.ServerTexts.{tiers_told, told_if}
use Rattle.tor_report.proofs.buffer.Buffer.put_announce_list.Goals as goal

pub returns-then-are_tiers-clause-put : goal.returns-then-are_tiers-clause-put
returns-then-are_tiers-clause-put g c =
    let value = view c.in-Some.value.now in
    subst
    (λ (told : Data). OnOk c.put_tiers.result (Puts g.S.Sink.took (compact_text told) c.args.out.now c.args.self.now
    c.put_tiers.new.out c.put_tiers.new.self))
    (tiers_told c.items_of.result.now value c.items_of.ensures
    ∙ told_if are_tiers tiers_data _ value c.in-Some.ensures (sym c.are_tiers.ensures ∙ c.if-are_tiers.true))
    c.put_tiers.ensures.put

pub returns-then-are_tiers-clause-stopped : goal.returns-then-are_tiers-clause-stopped
returns-then-are_tiers-clause-stopped g c =
    let value = view c.in-Some.value.now in
    subst
    (λ (told : Data). IfErr c.put_tiers.result (λ fault. Stops g.S.Sink.took g.S.Sink.fails (compact_text told)
    c.args.out.now c.args.self.now c.put_tiers.new.out fault.written))
    (tiers_told c.items_of.result.now value c.items_of.ensures
    ∙ told_if are_tiers tiers_data _ value c.in-Some.ensures (sym c.are_tiers.ensures ∙ c.if-are_tiers.true))
    c.put_tiers.ensures.stopped
