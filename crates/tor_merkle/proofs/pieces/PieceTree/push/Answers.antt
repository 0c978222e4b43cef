-- a leaf that opens a piece, and one that does not
use Rattle.tor_merkle.proofs.Names.{◌≡◌, ◌*◌, ◌%◌, ◌^◌, [], ◌∷◌, ◌++◌, arith, ap, ◌∙◌, sym, pow_pos, one_shl}
use Rattle.tor_merkle.proofs.Keeps.{leaves_some, ends_piece, keeps_open, keeps_closed}
use Rattle.tor_merkle.proofs.pieces.PieceTree.push.Goals.{then-len-self, else-len-self}
use Rattle.tor_merkle.proofs.pieces.PieceTree.push.Goals as goal

pub close_piece-requires : goal.close_piece-requires
close_piece-requires c =
    let t = c.self.inside in
    let power : 1 * 2 ^ t.height % 2 ^ 64 ≡ 2 ^ t.height = one_shl t.height 64 (omega (arith, c.self.invariant.low)) in
    let full = sym c.len.ensures ∙ c.if-len-self.true ∙ power in
    let some =
    leaves_some t.height t.leaves.items t.blocks t.pieces t.layer.items c.self.invariant
    (omega (arith, full, pow_pos t.height)) in
    ends_piece t.height t.leaves.items t.blocks t.pieces t.layer.items c.self.invariant _ _
    (omega (arith, t.layer.ok.0)) some
    (rw (← c.self.view_is) at c.requires.room)

pub invariant_of-self : goal.invariant_of-self
invariant_of-self c =
    let t = c.self.inside in
    let power : 1 * 2 ^ t.height % 2 ^ 64 ≡ 2 ^ t.height = one_shl t.height 64 (omega (arith, c.self.invariant.low)) in
    let small = rw (← c.self.view_is) at c.requires.small in
    elim c.if-len-self.branch [
      | then-len-self w ↦
          let e = w.close_piece.ensures.closed in
          rw (w.self-inside-is, c.with-leaves.ensures)
          (keeps_closed t.height t.leaves.items t.blocks t.pieces t.layer.items c.self.invariant c.args.leaf
          c.push.new.self w.close_piece.new.pieces w.close_piece.new.layer.items
          (sym c.len.ensures ∙ w.if-len-self.true ∙ power) small
          (c.push.ensures.level ∙ ap (λ s. s.blocks.level) w.self-inside-is ∙ e.block_level)
          (c.push.ensures.hashes ∙ ap (λ s. s.blocks.hashes ++ c.args.leaf ∷ []) w.self-inside-is
          ∙ ap (λ xs. xs ++ c.args.leaf ∷ []) e.emptied)
          e.piece_level e.stacked e.listed)
      | else-len-self w ↦
          rw (w.self-inside-is, c.with-leaves.ensures)
          (keeps_open t.height t.leaves.items t.blocks t.pieces t.layer.items c.self.invariant c.args.leaf
          c.push.new.self
          (λ e. w.if-len-self.false (c.len.ensures ∙ e ∙ sym power)) small
          (c.push.ensures.level ∙ ap (λ s. s.blocks.level) w.self-inside-is)
          (c.push.ensures.hashes ∙ ap (λ s. s.blocks.hashes ++ c.args.leaf ∷ []) w.self-inside-is))
    ]
