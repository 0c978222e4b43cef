-- Which words of a command want others, which shut others out, and which are wanted unless another is there.
use Rattle.std.specs.Prelude.{ℕ, List, ◌∷◌, [], codes}
use Rattle.std.specs.List.{flat_map}
use Rattle.tor_words.specs.Beside.{texts_of}
use Rattle.tor_words.specs.declared.word.Word.{Word}
use Rattle.tor_words.specs.declared.word.Takes.{Takes}
use Rattle.tor_words.specs.declared.word.Takes.TheVariants.{WantedUnless}

-- words, each with some others
abbrev pub Pairs : Type 0
Pairs = List (List ℕ × List (List ℕ))

-- which words want others, which shut others out, and which are wanted unless another is there
pub record Bounds : Type 0 where
  pub beside : Pairs
  pub without : Pairs
  pub unless : Pairs

-- a word with its others, if there are some
abbrev pub with_others : List ℕ → List (List ℕ) → Pairs
with_others name [] = []
with_others name others = (name, others) ∷ []

-- the other one that a word is wanted without
abbrev pub other_of : Takes → List (List ℕ)
other_of (WantedUnless shown other) = other.now ∷ []
other_of takes = []

-- what the words of a table say
abbrev pub bounds_of : List Word → Bounds
bounds_of words = record {
  beside = flat_map (λ word. with_others word.name.now (texts_of word.beside)) words;
  without = flat_map (λ word. with_others word.name.now (texts_of word.without)) words;
  unless = flat_map (λ word. with_others word.name.now (other_of word.takes)) words;
}

-- no word wants another, or shuts one out
abbrev pub no_bounds : Bounds
no_bounds = record { beside = []; without = []; unless = [] }

-- the options for what a plan says itself
abbrev pub said_by_plan : List (List ℕ)
said_by_plan =
    codes "name" ∷ codes "piece-length" ∷ codes "kind" ∷ codes "announce" ∷ codes "private" ∷ codes "tail"
    ∷ codes "attrs" ∷ codes "files-from" ∷ codes "span" ∷ codes "check-after" ∷ []

-- a list of files and a look afterwards want PATH. A plan wants PATH and a part, a part a plan, and a plan shuts out
-- what it says itself. A name is wanted unless there is a plan (profile)
abbrev pub make_bounds : Bounds
make_bounds = record {
  beside = (codes "files-from", codes "path" ∷ []) ∷ (codes "check-after", codes "path" ∷ [])
      ∷ (codes "plan", codes "part" ∷ codes "path" ∷ []) ∷ (codes "part", codes "plan" ∷ []) ∷ [];
  without = (codes "plan", said_by_plan) ∷ [];
  unless = (codes "name", codes "plan" ∷ []) ∷ [];
}

-- a list of files wants PATH (profile)
abbrev pub plan_bounds : Bounds
plan_bounds = record no_bounds { beside = (codes "files-from", codes "path" ∷ []) ∷ [] }

abbrev pub join_bounds : Bounds
join_bounds = no_bounds

-- JSON is no list of paths (profile)
abbrev pub scan_bounds : Bounds
scan_bounds = record no_bounds { without = (codes "json", codes "null" ∷ []) ∷ [] }

-- one form at a time: the lines, those with roots, the paths, or JSON (profile)
abbrev pub check_bounds : Bounds
check_bounds = record no_bounds {
  without = (codes "json", codes "null" ∷ []) ∷ (codes "roots", codes "null" ∷ codes "json" ∷ []) ∷ [];
}

abbrev pub magnet_bounds : Bounds
magnet_bounds = no_bounds

-- a tracker is wanted unless there is to be none, which shuts one out (profile)
abbrev pub edit_bounds : Bounds
edit_bounds = record {
  beside = [];
  without = (codes "no-announce", codes "announce" ∷ []) ∷ [];
  unless = (codes "announce", codes "no-announce" ∷ []) ∷ [];
}

abbrev pub prove_bounds : Bounds
prove_bounds = no_bounds

abbrev pub verify_bounds : Bounds
verify_bounds = no_bounds

-- the options that say how pieces are looked for, and what is printed of them
abbrev pub shut_out_by_extra : List (List ℕ)
shut_out_by_extra =
    codes "files" ∷ codes "bad" ∷ codes "keep-going" ∷ codes "no-links" ∷ codes "brief" ∷ codes "part"
    ∷ codes "workers" ∷ []

-- one form at a time; one part of the pieces tells of no file, and files that the torrent does not have are told alone
-- (profile)
abbrev pub recheck_bounds : Bounds
recheck_bounds = record no_bounds {
  without = (codes "json", codes "null" ∷ []) ∷ (codes "brief", codes "json" ∷ [])
      ∷ (codes "part", codes "files" ∷ codes "bad" ∷ codes "keep-going" ∷ []) ∷ (codes "extra", shut_out_by_extra) ∷ [];
}
