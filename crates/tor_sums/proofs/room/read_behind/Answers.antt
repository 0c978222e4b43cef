-- what was written stands between the same bytes as before
use Rattle.std.proofs.Common.{◌≡◌, ◌≤◌, ◌+◌, ◌++◌, ◌∙◌, ℕ, List, Some, ap, arith}
use Rattle.std.proofs.Common.{drop, inr, length, option_map, sym, take}
use Rattle.std.proofs.Math.Seq.{drop-append_seam, take-append_seam}
use Rattle.std.proofs.lemmas.List.{length-append, take-append-le}
use Rattle.tor_sums.specs.declared.errors.EngineError.TheVariants.{Read}
use Rattle.tor_sums.proofs.room.read_behind.Goals as goal

-- a list of two runs, of which the second is cut again and its front is written anew
module _ (bytes front behind left rest : List ℕ) (held most : ℕ) (front_len : length front ≡ held)
    (behind_len : length behind + held ≡ length bytes) (left_len : length left ≡ most)
    (rest_len : length rest + most ≡ length behind) (read : List ℕ) (read_len : length read ≡ length left) where
  same_length : length (front ++ (read ++ rest)) ≡ length bytes
  same_length = omega (
    arith,
    length-append front (read ++ rest),
    length-append read rest,
    front_len,
    behind_len,
    left_len,
    rest_len,
    read_len,
  )

  same_front : front ≡ take held bytes → take held (front ++ (read ++ rest)) ≡ take held bytes
  same_front is = ap (λ n. take n (front ++ (read ++ rest))) (sym front_len)
      ∙ take-append_seam front (read ++ rest) ∙ is

  read_there : (count : ℕ) → count ≤ length left
      → take count (drop held (front ++ (read ++ rest))) ≡ take count read
  read_there count few =
      ap (λ n. take count (drop n (front ++ (read ++ rest)))) (sym front_len)
      ∙ ap (take count) (drop-append_seam front (read ++ rest))
      ∙ take-append-le count read rest (omega (arith, few, read_len))

pub returns-in-Ok-eq0-clause-len : goal.returns-in-Ok-eq0-clause-len
returns-in-Ok-eq0-clause-len g c =
    same_length c.args.bytes.now c.split_at_mut-behind.result.0.now c.split_at_mut-behind.result.1.now
    c.split_at_mut-buffer.result.0.now c.split_at_mut-buffer.result.1.now c.args.held c.args.most
    c.split_at_mut-behind.ensures.front_len c.split_at_mut-behind.ensures.back_len
    c.split_at_mut-buffer.ensures.front_len c.split_at_mut-buffer.ensures.back_len
    c.bytes_at.new.buffer c.bytes_at.auto.buffer

pub returns-in-Ok-eq0-clause-front : goal.returns-in-Ok-eq0-clause-front
returns-in-Ok-eq0-clause-front g c =
    same_front c.args.bytes.now c.split_at_mut-behind.result.0.now c.split_at_mut-behind.result.1.now
    c.split_at_mut-buffer.result.0.now c.split_at_mut-buffer.result.1.now c.args.held c.args.most
    c.split_at_mut-behind.ensures.front_len c.split_at_mut-behind.ensures.back_len
    c.split_at_mut-buffer.ensures.front_len c.split_at_mut-buffer.ensures.back_len
    c.bytes_at.new.buffer c.bytes_at.auto.buffer
    c.split_at_mut-behind.ensures.front

pub returns-in-Ok-clause-len : goal.returns-in-Ok-clause-len
returns-in-Ok-clause-len g c =
    same_length c.args.bytes.now c.split_at_mut-behind.result.0.now c.split_at_mut-behind.result.1.now
    c.split_at_mut-buffer.result.0.now c.split_at_mut-buffer.result.1.now c.args.held c.args.most
    c.split_at_mut-behind.ensures.front_len c.split_at_mut-behind.ensures.back_len
    c.split_at_mut-buffer.ensures.front_len c.split_at_mut-buffer.ensures.back_len
    c.bytes_at.new.buffer c.bytes_at.auto.buffer

pub returns-in-Ok-clause-front : goal.returns-in-Ok-clause-front
returns-in-Ok-clause-front g c =
    same_front c.args.bytes.now c.split_at_mut-behind.result.0.now c.split_at_mut-behind.result.1.now
    c.split_at_mut-buffer.result.0.now c.split_at_mut-buffer.result.1.now c.args.held c.args.most
    c.split_at_mut-behind.ensures.front_len c.split_at_mut-behind.ensures.back_len
    c.split_at_mut-buffer.ensures.front_len c.split_at_mut-buffer.ensures.back_len
    c.bytes_at.new.buffer c.bytes_at.auto.buffer
    c.split_at_mut-behind.ensures.front

pub returns-in-Ok-clause-read : goal.returns-in-Ok-clause-read
returns-in-Ok-clause-read g c = λ facts is_steady some.
    let steady = c.in-Ok.ensures.steady facts is_steady in
    record {
      same = read_there c.args.bytes.now c.split_at_mut-behind.result.0.now c.split_at_mut-behind.result.1.now
          c.split_at_mut-buffer.result.0.now c.split_at_mut-buffer.result.1.now c.args.held c.args.most
          c.split_at_mut-behind.ensures.front_len c.split_at_mut-behind.ensures.back_len
          c.split_at_mut-buffer.ensures.front_len c.split_at_mut-buffer.ensures.back_len
          c.bytes_at.new.buffer c.bytes_at.auto.buffer
          c.in-Ok.count steady.within ∙ steady.bytes;
      fault_free = steady.fault_free;
    }

pub returns-in-Ok-clause-there : goal.returns-in-Ok-clause-there
returns-in-Ok-clause-there g c = λ facts is_steady. (c.in-Ok.ensures.steady facts is_steady).there

pub returns-in-Err : goal.returns-in-Err
returns-in-Err g c =
    let of_read = option_map (λ fault. Read c.args.file (Some c.args.start) fault) in
    record {
      len = same_length c.args.bytes.now c.split_at_mut-behind.result.0.now c.split_at_mut-behind.result.1.now
          c.split_at_mut-buffer.result.0.now c.split_at_mut-buffer.result.1.now c.args.held c.args.most
          c.split_at_mut-behind.ensures.front_len c.split_at_mut-behind.ensures.back_len
          c.split_at_mut-buffer.ensures.front_len c.split_at_mut-buffer.ensures.back_len
          c.bytes_at.new.buffer c.bytes_at.auto.buffer;
      front = same_front c.args.bytes.now c.split_at_mut-behind.result.0.now c.split_at_mut-behind.result.1.now
          c.split_at_mut-buffer.result.0.now c.split_at_mut-buffer.result.1.now c.args.held c.args.most
          c.split_at_mut-behind.ensures.front_len c.split_at_mut-behind.ensures.back_len
          c.split_at_mut-buffer.ensures.front_len c.split_at_mut-buffer.ensures.back_len
          c.bytes_at.new.buffer c.bytes_at.auto.buffer
          c.split_at_mut-behind.ensures.front;
      some = tt;
      read = λ facts is_steady some. ap of_read (c.in-Err.ensures.steady facts is_steady);
      ends = λ facts is_steady none. inr (ap of_read (c.in-Err.ensures.steady facts is_steady));
      there = tt;
      gave = λ lengths named within. ((c.in-Err.ensures.gave, within), named);
    }
