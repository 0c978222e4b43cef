use Rattle.tor_edit.proofs.Names.{◌≡◌, Err, IsRefusedFor, ap, of_bencode, subst, sym, view}
use Rattle.tor_edit.proofs.OneTree.{tree_of_torrent}
use Rattle.tor_bencode.specs.declared.error.BenError.TheVariants as errors
use Rattle.tor_edit.proofs.tracker.root_of.Goals as goal

pub returns-in-Ok-decode_ref-clause-accepted : goal.returns-in-Ok-decode_ref-clause-accepted
returns-in-Ok-decode_ref-clause-accepted c =
    let told = c.in-Ok.ensures.accepted in
    let read = c.in-Ok-decode_ref.ensures.item in
    tree_of_torrent c.args.torrent.now told.0 (view c.in-Ok-decode_ref.root) told.1 read.0 read.1

-- a torrent's bytes are a tree, so only memory can be missing
pub returns-in-Err-decode_ref : goal.returns-in-Err-decode_ref
returns-in-Err-decode_ref c =
    let told = c.in-Ok.ensures.accepted in
    let failed = c.in-Err-decode_ref.ensures in
    let memory : c.in-Err-decode_ref.error ≡ errors.Memory = failed.only told.0 told.1.lawful told.1.spelled in
    let refusal = subst (λ error. of_bencode error c.from.result) memory c.from.ensures in record {
      accepted = tt;
      only = λ valid. refusal;
      refused = subst (λ one. IsRefusedFor c.args.torrent.now one) (sym refusal) tt;
      memory = λ same. failed.memory (ap Err memory);
    }
