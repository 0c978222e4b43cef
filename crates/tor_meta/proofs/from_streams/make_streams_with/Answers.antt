-- what was read, in the order of the paths
use Rattle.std.proofs.Common.{◌≡◌, ◌∙◌, None, Some, inl, length, map, ap, refl, sym, subst}
use Rattle.std.proofs.lemmas.List.{length-map}
use Rattle.std.proofs.lemmas.Option.{none-some}
use Rattle.std.specs.declared.io.Error.{Error}
use Rattle.tor_streams.specs.Streams.{GivesWhole}
use Rattle.tor_meta.specs.Contents.{files_with}
use Rattle.tor_meta.specs.MakeStreams.{IsGivenByReaders, stream_refusal}
use Rattle.tor_meta.specs.Order.{settings_of_order}
use Rattle.tor_meta.specs.Refusal.{paths_refusal}
use Rattle.tor_meta.specs.steps.Sums.{AreSumsOfSettings}
use Rattle.tor_meta.proofs.FirstFaults.{one_refusal, own_hashing, own_large, own_refusal}
use Rattle.tor_meta.proofs.Refused.{accepted_numbers, given_by_readers_or_not, stream_paths, stream_rising}
use Rattle.tor_meta.proofs.RisingPaths.{sorted_from_rising}
use Rattle.tor_engine.proofs.ProvedLaws.{stopped, stopped_by}
use Rattle.tor_meta.proofs.StreamSums.{given_large, known_long, lengths_read, made_in_order}
use Rattle.tor_spec.specs.Metainfo.{metainfo}
use Rattle.tor_spec.specs.Settings.{Settings}
use Rattle.tor_tree.specs.FileList.{lengths_fault, paths_of}
use Rattle.tor_meta.proofs.from_streams.make_streams_with.Goals as goal

pub returns-in-Err-clause-gave : goal.returns-in-Err-clause-gave
returns-in-Err-clause-gave g c =
    given_by_readers_or_not Error (map g.R.Read.remaining c.args.readers.items) c.args.order.now (paths_of
    c.args.files.now)
    c.in-Err.error c.in-Err.ensures.refused

pub sums_of-requires-clause-accepted : goal.sums_of-requires-clause-accepted
sums_of-requires-clause-accepted g c κs within =
    accepted_numbers c.args.order.now (paths_of c.args.files.now) c.in-Ok.ensures.accepted

pub torrent_of_read-requires : goal.torrent_of_read-requires
torrent_of_read-requires g c =
    let paths = paths_of c.args.files.now in
    let readers = c.args.readers in
    let to_head = sym c.in_ok-head.ensures in
    let summed = c.in-Ok-sums_of.ensures.summed in
    let many = known_long GivesWhole (map g.R.Read.remaining readers.items) summed.contents (length c.args.files.now)
    (length-map readers.items g.R.Read.remaining ∙ sym readers.ok.0 ∙ c.requires) summed.given in record {
      judged = subst (λ (s : Settings). paths_refusal s paths ≡ None) to_head
          (stream_paths c.args.order.now paths c.in-Ok.ensures.accepted);
      indexed = c.in-Ok.ensures.indexed;
      same = c.in-Ok.ensures.same;
      summed = (
        summed.contents,
        many,
        subst (λ (s : Settings). AreSumsOfSettings s summed.contents c.in-Ok-sums_of.sums) to_head summed.sums_up,
      );
    }

pub returns-in-Ok-torrent_of_read-clause-made : goal.returns-in-Ok-torrent_of_read-clause-made
returns-in-Ok-torrent_of_read-clause-made g c = λ contents known.
    let files = c.args.files.now in
    let readers = c.args.readers in
    let of_head = c.in_ok-head.ensures in
    let many : length contents ≡ length files = sym (length-map contents (λ content. Some content))
    ∙ ap length (sym known) ∙ length-map readers.items g.R.Read.remaining ∙ sym readers.ok.0 ∙ c.requires in
    c.in-Ok-torrent_of_read.ensures.made contents many
    (subst (λ (s : Settings). AreSumsOfSettings s contents c.in-Ok-sums_of.sums) (sym of_head)
    (c.in-Ok-sums_of.ensures.told contents known))
    ∙ ap (λ settings. metainfo settings (files_with files contents)) of_head

-- the bytes, of what was read
pub returns-in-Ok-torrent_of_read-clause-whole : goal.returns-in-Ok-torrent_of_read-clause-whole
returns-in-Ok-torrent_of_read-clause-whole g c =
    let settings = settings_of_order c.args.order.now in
    let files = c.args.files.now in
    let readers = c.args.readers in
    let of_head = c.in_ok-head.ensures in
    let sums = c.in-Ok-sums_of.sums in
    let summed = c.in-Ok-sums_of.ensures.summed in
    let many = known_long GivesWhole (map g.R.Read.remaining readers.items) summed.contents (length files)
    (length-map readers.items g.R.Read.remaining ∙ sym readers.ok.0 ∙ c.requires) summed.given in (
      summed.contents,
      summed.given,
      ap lengths_fault (sym (lengths_read settings summed.contents sums summed.sums_up))
          ∙ c.in-Ok-torrent_of_read.ensures.accepted,
      c.in-Ok-torrent_of_read.ensures.made summed.contents many
          (subst (λ (s : Settings). AreSumsOfSettings s summed.contents sums) (sym of_head) summed.sums_up)
          ∙ ap (λ settings. metainfo settings (files_with files summed.contents)) of_head,
    )

pub returns-in-Ok-torrent_of_read-clause-some : goal.returns-in-Ok-torrent_of_read-clause-some
returns-in-Ok-torrent_of_read-clause-some g c =
    let order = c.args.order.now in
    let files = c.args.files.now in
    let readers = c.args.readers in
    let of_head = c.in_ok-head.ensures in
    let summed = c.in-Ok-sums_of.ensures.summed in
    let many = known_long GivesWhole (map g.R.Read.remaining readers.items) summed.contents (length files)
    (length-map readers.items g.R.Read.remaining ∙ sym readers.ok.0 ∙ c.requires) summed.given in
    made_in_order (settings_of_order order) files summed.contents c.in-Ok-torrent_of_read.bytes.items many
    (sorted_from_rising (paths_of files) (stream_rising order (paths_of files) c.in-Ok.ensures.accepted))
    (c.in-Ok-torrent_of_read.ensures.made summed.contents many
    (subst (λ (s : Settings). AreSumsOfSettings s summed.contents c.in-Ok-sums_of.sums) (sym of_head) summed.sums_up)
    ∙ ap (λ settings. metainfo settings (files_with files summed.contents)) of_head)

pub returns-clause-gave : goal.returns-clause-gave
returns-clause-gave g c =
    let known = map g.R.Read.remaining c.args.readers.items in
    let sums = c.in-Ok-sums_of.sums in
    let summed = c.in-Ok-sums_of.ensures.summed in
    subst (IsGivenByReaders known) (sym c.from-in-Err-torrent_of_read.ensures)
    (given_large Error known summed.contents sums.lengths.items c.in-Err-torrent_of_read.refusal summed.given
    (lengths_read (settings_of_order c.args.order.now) summed.contents sums summed.sums_up)
    c.in-Err-torrent_of_read.ensures.refused)

-- what is refused before any reader is read, and what reading tells
pub returns-in-Err-clause-refused : goal.returns-in-Err-clause-refused
returns-in-Err-clause-refused g c = λ refusal is.
    one_refusal (stream_refusal c.args.order.now (paths_of c.args.files.now)) c.in-Err.error refusal
    c.in-Err.ensures.refused is

pub returns-in-Err-clause-only : goal.returns-in-Err-clause-only
returns-in-Err-clause-only g c =
    own_refusal (stream_refusal c.args.order.now (paths_of c.args.files.now)) c.in-Err.error c.in-Err.ensures.refused

pub returns-in-Err-sums_of-clause-refused : goal.returns-in-Err-sums_of-clause-refused
returns-in-Err-sums_of-clause-refused g c = λ refusal is.
    absurd (none-some refusal (sym c.in-Ok.ensures.accepted ∙ is))

pub returns-in-Err-sums_of-clause-only : goal.returns-in-Err-sums_of-clause-only
returns-in-Err-sums_of-clause-only g c =
    own_hashing (stream_refusal c.args.order.now (paths_of c.args.files.now)) c.from.result _ c.from.ensures

pub returns-clause-refused : goal.returns-clause-refused
returns-clause-refused g c = λ refusal is. absurd (none-some refusal (sym c.in-Ok.ensures.accepted ∙ is))

pub returns-clause-only : goal.returns-clause-only
returns-clause-only g c =
    own_large (stream_refusal c.args.order.now (paths_of c.args.files.now)) c.from-in-Err-torrent_of_read.result
    c.in-Err-torrent_of_read.refusal c.from-in-Err-torrent_of_read.ensures c.in-Err-torrent_of_read.ensures.refused

-- where there is no memory for the head
pub returns-in_err-head : goal.returns-in_err-head
returns-in_err-head g c =
    let r = c.from_residual.result in
    let is = c.from_residual.ensures.1 in record {
      made = λ contents known. stopped _ _ r is;
      whole = stopped _ _ r is;
      some = stopped _ _ r is;
      info = stopped _ _ r is;
      accepted = stopped _ _ r is;
      refused = λ refusal first. stopped_by _ _ r is (inl refl);
      only = stopped_by _ _ r is tt;
      gave = stopped_by _ _ r is tt;
    }
