-- The sums are those of what was read.
use Rattle.std.proofs.Common.{◌≡◌, ◌∙◌, [], ◌∷◌, ap, arith, get_or, length, sym}
use Rattle.tor_meta.specs.Contents.{one_file}
use Rattle.tor_meta.specs.Order.{settings_of_order}
use Rattle.tor_spec.specs.Metainfo.{metainfo}
use Rattle.tor_spec.specs.Settings.{Settings}
use Rattle.tor_meta.proofs.OneFile.{sums_of_one_read}
use Rattle.tor_meta.proofs.StreamSums.{lengths_read}
use Rattle.tor_meta.proofs.from_input.made_by_streams.Goals as goal

pub index-count-requires : goal.index-count-requires
index-count-requires g c =
    let summed = c.in_ok-sums.ensures.summed in
    let long = ap length
    (lengths_read (settings_of_order c.args.order.now) (summed.0 ∷ []) c.in_ok-sums.sums summed.2) in
    omega (arith, long, c.in_ok-sums.sums.lengths.ok.0)

pub make_summed-requires-clause-small : goal.make_summed-requires-clause-small
make_summed-requires-clause-small g c =
    let summed = c.in_ok-sums.ensures.summed in
    let read = lengths_read (settings_of_order c.args.order.now) (summed.0 ∷ []) c.in_ok-sums.sums summed.2 in
    let count : c.index-count.result.now ≡ length summed.0 =
    c.index-count.ensures ∙ ap (λ xs. get_or xs 0 c.index-count.result.now) read in
    omega (arith, count, summed.1.1)

pub make_summed-requires-clause-summed : goal.make_summed-requires-clause-summed
make_summed-requires-clause-summed g c =
    let settings = settings_of_order c.args.order.now in
    let summed = c.in_ok-sums.ensures.summed in
    let read = lengths_read settings (summed.0 ∷ []) c.in_ok-sums.sums summed.2 in
    let count : c.index-count.result.now ≡ length summed.0 =
    c.index-count.ensures ∙ ap (λ xs. get_or xs 0 c.index-count.result.now) read in (
      summed.0,
      sym count,
      sums_of_one_read c.args.head.now settings summed.0 c.index-count.result.now c.in_ok-sums.sums
          c.requires.settings (sym count) summed.2,
    )

pub returns-clause-made : goal.returns-clause-made
returns-clause-made g c =
    let settings = settings_of_order c.args.order.now in
    let summed = c.in_ok-sums.ensures.summed in
    let content = summed.0 in
    let read = lengths_read settings (content ∷ []) c.in_ok-sums.sums summed.2 in
    let count : c.index-count.result.now ≡ length content =
    c.index-count.ensures ∙ ap (λ xs. get_or xs 0 c.index-count.result.now) read in (
      content,
      record {
        read = summed.1;
        accepted = c.requires.accepted;
        torrent = c.in_ok-make_summed.ensures.made content (sym count)
            (sums_of_one_read c.args.head.now settings content c.index-count.result.now c.in_ok-sums.sums
            c.requires.settings (sym count) summed.2)
            ∙ ap (λ (s : Settings). metainfo s (one_file s.name content c.args.attr)) c.requires.settings;
      },
    )
