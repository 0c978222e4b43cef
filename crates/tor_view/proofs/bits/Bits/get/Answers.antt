use Rattle.tor_view.proofs.Names.{◌≡◌, sym, ◌∙◌, ◌/◌, ◌-◌, ◌%◌, ◌<◌, refl, length, get_or, arith}
use Rattle.tor_view.proofs.Names.{get_or_default_zero, shr_and_one}
use Rattle.tor_view.proofs.ReadBack.{read_within, read_past}
use Rattle.tor_view.proofs.bits.Bits.get.Goals as goal

pub returns-then-index-self : goal.returns-then-index-self
returns-then-index-self c =
    let past = read_past c.self.inside.bytes.items c.self.inside.count c.args.index c.if-index-self.true in
    rw (← c.self.view_is) (sym past)

pub returns : goal.returns
returns c =
    let bytes = c.self.inside.bytes.items in
    let within : c.args.index / 8 < length bytes = omega (arith, c.self.invariant.sized) in
    let byte : c.index-byte.result.now ≡ get_or bytes (c.args.index / 8) 0 =
    c.index-byte.ensures ∙ get_or_default_zero bytes (c.args.index / 8) c.index-byte.result.now within in
    let read = read_within bytes c.self.inside.count c.args.index c.if-index-self.false in
    rw (← c.self.view_is, read, byte, shr_and_one (get_or bytes (c.args.index / 8) 0) (7 - c.args.index % 8)) refl
