use Rattle.std.proofs.Common.{refl, codes, ◌++◌}
use Rattle.std.proofs.lemmas.List.{append_assoc}
use Rattle.hex.specs.Hex.{encode_lower}
use Rattle.std.specs.String.{string_bytes}
use Rattle.tor_spec.specs.Hashes.{btih}
use Rattle.tor_spec.proofs.hashes.push_topics.Goals as goal

pub returns-in_ok-push_topic-in-Some-Some-2 : goal.returns-in_ok-push_topic-in-Some-Some-2
returns-in_ok-push_topic-in-Some-Some-2 c =
    rw (
      c.in-Some-Some.is-0,
      c.in-Some-Some.is-1,
      c.in_ok-push_topic-in-Some-Some-2.ensures,
      c.in_ok-push_topic-in-Some-Some.ensures,
      c.as_slice.ensures,
      c.as_slice-in-Some-Some.ensures,
    )
    (append_assoc (string_bytes c.args.link.now) (btih c.in-Some-Some.v1)
    (codes "&xt=urn:btmh:1220" ++ encode_lower c.in-Some-Some.v2))

pub returns-in_ok-push_topic-in-Some-None : goal.returns-in_ok-push_topic-in-Some-None
returns-in_ok-push_topic-in-Some-None c =
    rw (
      c.in-Some-None.is-0,
      c.in-Some-None.is-1,
      c.in_ok-push_topic-in-Some-None.ensures,
      c.as_slice-in-Some-None.ensures,
    ) refl

pub returns-in_ok-push_topic-in-None-Some : goal.returns-in_ok-push_topic-in-None-Some
returns-in_ok-push_topic-in-None-Some c =
    rw (
      c.in-None-Some.is-0,
      c.in-None-Some.is-1,
      c.in_ok-push_topic-in-None-Some.ensures,
      c.as_slice-in-None-Some.ensures,
    ) refl
