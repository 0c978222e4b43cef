-- What proofs of other crates cite: what is a sink, what is put if texts are put one after another, and what then went
-- out.
pub use Rattle.tor_report.proofs.Faults.{fault_after, fault_in, put_last, put_third, stop_last, stop_third}
pub use Rattle.tor_report.proofs.MembersTexts.{array_text}
pub use Rattle.tor_report.proofs.Putting.{put_nothing, puts_both, puts_none, stops_later, stops_sooner}
pub use Rattle.tor_report.proofs.Reports.{at_write, without_memory}
pub use Rattle.tor_report.proofs.SinkLaws.{count_is_sink, room_is_sink}
pub use Rattle.tor_report.proofs.Spellings.{as_is}
pub use Rattle.tor_report.proofs.Texts.{flat_all, flat_more, flat_rest}
pub use Rattle.tor_report.proofs.ZipTexts.{are_pairs, is_pair, pair_is}
