-- Where the lines of letters and their paths are cut.
use Rattle.std.proofs.Common.{◌≡◌, ℕ, ◌<◌, ◌≤◌, List, [], ◌∷◌, ◌++◌, length, refl, sym, ap, ◌∙◌, true, false, Bool}
use Rattle.std.proofs.Common.{arith}
use Rattle.std.proofs.Common.{eqb-true, suc, get_or, ◌+◌, take-append-drop, length-append, length-drop, subst, ◌-◌}
use Rattle.std.proofs.Common.{codes, unwrap_or, ◌==◌, append_assoc, true≢false, take, drop, eq-eqb, Option, Some, None}
use Rattle.std.specs.Prelude.{◌||◌, if◌then◌else◌, IsSome, MatchOption}
use Rattle.std.specs.Option.{IsSomeAnd}
use Rattle.std.specs.List.{All, join_with_byte, position_or_len, slice_split}
use Rattle.std.proofs.lemmas.List.{append-nil, get_or-drop, take_all}
use Rattle.std.proofs.lemmas.List.Sums.{passes_at_first}
use Rattle.std.proofs.lemmas.List.Splits.{join_with_byte-slice_split, slice_split_at, slice_split_none}
use Rattle.std.proofs.Math.Seq.{drop-append_seam, take-append_seam}
use Rattle.std.proofs.lemmas.List.Folds.{list_any-append}
use Rattle.std.proofs.lemmas.List.Elements.{All-cons, All-head, All-nil, All-tail}
use Rattle.tor_tree.specs.Name.{has_byte, name_fault, slash}
use Rattle.tor_tree.specs.Path.{IsFilePath}
use Rattle.tor_tree.specs.declared.names.NameError.TheVariants.{Empty, Dot, DotDot, Slash, Nul, NotUtf8}
use Rattle.tor_tree.specs.Letters.{letters}
use Rattle.tor_cli.specs.make.AttrsText.{IsLettered, attrs_line, line_feed}
use Rattle.tor_report.specs.Shown.{path_text}
use Rattle.tor_tree.specs.declared.attr.Attr.{Attr}

or_true : (a : Bool) → (a || true) ≡ true
or_true true = refl
or_true false = refl

or_false : (a b : Bool) → (a || b) ≡ false → (a ≡ false) × (b ≡ false)
or_false true b e = absurd (true≢false e)
or_false false b e = (refl, e)

-- each byte is another
all_other : (byte : ℕ) (text : List ℕ) → has_byte byte text ≡ false → All (λ x. (x == byte) ≡ false) text
all_other byte [] none = All-nil (λ x. (x == byte) ≡ false)
all_other byte (x ∷ text) none =
    let (other, rest) = or_false (x == byte) (has_byte byte text) none in
    All-cons (λ x. (x == byte) ≡ false) x text other (all_other byte text rest)

-- before the first such byte there is none
pub none_before : (byte : ℕ) (text : List ℕ)
    → has_byte byte (take (position_or_len (λ b. b == byte) text) text) ≡ false
none_before byte [] = refl
none_before byte (x ∷ text) = by_test (x == byte) refl (none_before byte text)
  where
    by_test : (t : Bool) → (x == byte) ≡ t
        → has_byte byte (take (position_or_len (λ b. b == byte) text) text) ≡ false
        → has_byte byte (take (position_or_len (λ b. b == byte) (x ∷ text)) (x ∷ text)) ≡ false
    by_test true e rest = rw e refl
    by_test false e rest =
        let n = position_or_len (λ b. b == byte) text in
        let next : 1 + n ≡ suc n = omega arith in
        rw (e, next, e) rest

-- a text without it comes before the first
pub first_at : (byte : ℕ) (before after : List ℕ) → has_byte byte before ≡ false
    → position_or_len (λ b. b == byte) (before ++ byte ∷ after) ≡ length before
first_at byte [] after none = rw (eq-eqb byte byte refl) refl
first_at byte (x ∷ before) after none =
    let (other, rest) = or_false (x == byte) (has_byte byte before) none in
    rw other (omega (arith, first_at byte before after rest))

as_joined : (names : List (List ℕ)) → path_text names ≡ join_with_byte slash names
as_joined [] = refl
as_joined (x ∷ []) = append-nil x
as_joined (x ∷ y ∷ names) = ap (λ (rest : List ℕ). x ++ slash ∷ rest) (as_joined (y ∷ names))

-- what is cut at each slash joins to the whole
pub path_text-split : (text : List ℕ) → path_text (slice_split (λ b. b == slash) text) ≡ text
path_text-split text =
    as_joined (slice_split (λ b. b == slash) text) ∙ join_with_byte-slice_split slash text

-- and names without a slash are what their path is cut into
pub split-path_text : (name : List ℕ) (names : List (List ℕ))
    → All (λ name. has_byte slash name ≡ false) (name ∷ names)
    → slice_split (λ b. b == slash) (path_text (name ∷ names)) ≡ name ∷ names
split-path_text name [] none =
    rw (append-nil name)
    (slice_split_none (λ b. b == slash) name (all_other slash name (All-head (λ n. has_byte slash n ≡ false) name []
    none)))
split-path_text name (next ∷ names) none =
    slice_split_at (λ b. b == slash) name slash (path_text (next ∷ names))
    (all_other slash name (All-head (λ n. has_byte slash n ≡ false) name (next ∷ names) none)) refl
    ∙ ap (λ (parts : List (List ℕ)). name ∷ parts)
    (split-path_text next names (All-tail (λ n. has_byte slash n ≡ false) name (next ∷ names) none))

by_tests : (a b c s d e : Bool) → (if a then Some Empty else (
    if b then Some Dot else (
    if c then Some DotDot else (
    if s then Some Slash else (
    if d then Some Nul else (
    if e then None else Some NotUtf8)))))) ≡ None → s ≡ false
by_tests a b c false d e none = refl
by_tests true b c true d e none = absurd cc
by_tests false true c true d e none = absurd cc
by_tests false false true true d e none = absurd cc
by_tests false false false true d e none = absurd cc

-- no name has a slash
pub no_slash : (name : List ℕ) → name_fault name ≡ None → has_byte slash name ≡ false
no_slash name none = by_tests _ _ _ (has_byte slash name) _ _ none

-- a path without faults is cut at its slashes alone
pub split-path : (path : List (List ℕ)) → IsFilePath path → slice_split (λ b. b == slash) (path_text path) ≡ path
split-path [] is = absurd (is.some refl)
split-path (name ∷ names) is =
    split-path_text name names
    (All-map_of (λ n. name_fault n ≡ None) (λ n. has_byte slash n ≡ false) no_slash (name ∷ names) is.named)
  where
    All-map_of : (P Q : List ℕ → Type 0) → ((n : List ℕ) → P n → Q n) → (ns : List (List ℕ)) → All P ns → All Q ns
    All-map_of P Q so [] all = All-nil Q
    All-map_of P Q so (n ∷ ns) all =
        All-cons Q n ns (so n (All-head P n ns all)) (All-map_of P Q so ns (All-tail P n ns all))

-- a byte that is no slash is in a path where it is in a name
pub in_names : (byte : ℕ) → (slash == byte) ≡ false → (path : List (List ℕ)) → has_byte byte (path_text path) ≡ false
    → All (λ name. has_byte byte name ≡ false) path
in_names byte other [] none = All-nil (λ name. has_byte byte name ≡ false)
in_names byte other (name ∷ []) none =
    All-cons (λ name. has_byte byte name ≡ false) name [] (rw (append-nil name) at none)
    (All-nil (λ name. has_byte byte name ≡ false))
in_names byte other (name ∷ next ∷ names) none =
    let both = rw (list_any-append (λ x. x == byte) name (slash ∷ path_text (next ∷ names))) at none in
    let (first, rest) = or_false (has_byte byte name) (has_byte byte (slash ∷ path_text (next ∷ names))) both in
    let (is_other, after) = or_false (slash == byte) (has_byte byte (path_text (next ∷ names))) rest in
    All-cons (λ name. has_byte byte name ≡ false) name (next ∷ names) first (in_names byte other (next ∷ names) after)

pub in_path : (byte : ℕ) → (slash == byte) ≡ false → (path : List (List ℕ))
    → All (λ name. has_byte byte name ≡ false) path → has_byte byte (path_text path) ≡ false
in_path byte other [] none = refl
in_path byte other (name ∷ []) none =
    rw (append-nil name) (All-head (λ name. has_byte byte name ≡ false) name [] none)
in_path byte other (name ∷ next ∷ names) none =
    let rest = in_path byte other (next ∷ names) (All-tail (λ name. has_byte byte name ≡ false) name (next ∷ names)
    none)
    in
    list_any-append (λ x. x == byte) name (slash ∷ path_text (next ∷ names))
    ∙ rw (All-head (λ name. has_byte byte name ≡ false) name (next ∷ names) none, other) rest

-- a text that is all before the first such byte has none
pub has_none : (byte : ℕ) (text : List ℕ) (count : ℕ) (rest : List ℕ)
    → count ≡ position_or_len (λ b. b == byte) text → rest ≡ drop count text → length rest ≡ 0
    → has_byte byte text ≡ false
has_none byte text count rest at cut empty =
    let all : length text ≤ count = omega (arith, sym empty ∙ ap length cut ∙ length-drop count text) in
    let whole : take count text ≡ text = take_all count text all in
    ap (has_byte byte) (sym whole ∙ ap (λ (n : ℕ). take n text) at) ∙ none_before byte text

-- but one that is written with it has it
pub none_there : (byte : ℕ) (text before after : List ℕ) → has_byte byte text ≡ false
    → text ≡ before ++ byte ∷ after → ⊥
none_there byte text before after none same =
    let there : has_byte byte (before ++ byte ∷ after) ≡ true =
    list_any-append (λ x. x == byte) before (byte ∷ after)
    ∙ rw (eq-eqb byte byte refl) (or_true (has_byte byte before)) in
    true≢false (sym there ∙ ap (has_byte byte) (sym same) ∙ none)

pub cut_first : (byte : ℕ) (text before after : List ℕ) (count : ℕ) (front rest : List ℕ) (x : ℕ) (behind : List ℕ)
    → count ≡ position_or_len (λ b. b == byte) text → front ≡ take count text → rest ≡ drop count text
    → rest ≡ x ∷ behind → has_byte byte before ≡ false → text ≡ before ++ byte ∷ after
    → (front ≡ before) × (behind ≡ after)
cut_first byte text before after count front rest x behind at cut left first none same =
    let here : count ≡ length before = at ∙ ap (λ (t : List ℕ). position_or_len (λ b. b == byte) t) same
    ∙ first_at byte before after none in
    let there : rest ≡ byte ∷ after = rw (left, here, same) (drop-append_seam before (byte ∷ after)) in (
      rw (cut, here, same) (take-append_seam before (byte ∷ after)),
      ap (λ (t : List ℕ). drop 1 t) (sym first ∙ there),
    )

pub cut_there : (byte : ℕ) (text : List ℕ) (count : ℕ) (front rest : List ℕ) (x : ℕ) (behind : List ℕ)
    → count ≡ position_or_len (λ b. b == byte) text → front ≡ take count text → rest ≡ drop count text
    → rest ≡ x ∷ behind → (text ≡ front ++ byte ∷ behind) × (has_byte byte front ≡ false)
cut_there byte text count front rest x behind at cut left first =
    let whole : text ≡ front ++ rest = rw (cut, left) (sym (take-append-drop count text)) in
    let there : length rest ≡ length text - count = ap length left ∙ length-drop count text in
    let within : position_or_len (λ b. b == byte) text < length text =
    omega (arith, there, ap length first, at) in
    let next : count + 0 ≡ count = omega arith in
    let at_end : x ≡ get_or text count 0 =
    ap (λ (t : List ℕ). get_or t 0 0) (sym first ∙ left) ∙ get_or-drop count text 0 0
    ∙ ap (λ (n : ℕ). get_or text n 0) next in
    let passes : (x == byte) ≡ true =
    rw (at_end, at) (passes_at_first (λ b. b == byte) text 0 within) in (
      whole ∙ ap (λ (t : List ℕ). front ++ t) first ∙ ap (λ (b : ℕ). front ++ b ∷ behind) (eqb-true x byte passes),
      rw (cut, at) (none_before byte text),
    )

pub some_bytes : (file : List (List ℕ) × Attr) → 0 < length (attrs_line file)
some_bytes file =
    omega (arith, length-append (unwrap_or (letters file.1) []) (codes " " ++ (path_text file.0 ++ codes "\n")))

-- the first part of a path, and the others
pub next_part : (rest part more : List ℕ) → rest ≡ part ++ slash ∷ more → has_byte slash part ≡ false
    → slice_split (λ b. b == slash) rest ≡ part ∷ slice_split (λ b. b == slash) more
next_part rest part more same none =
    ap (slice_split (λ b. b == slash)) same
    ∙ slice_split_at (λ b. b == slash) part slash more (all_other slash part none) refl

-- the last part
pub last_part : (rest : List ℕ) → has_byte slash rest ≡ false → slice_split (λ b. b == slash) rest ≡ rest ∷ []
last_part rest none = slice_split_none (λ b. b == slash) rest (all_other slash rest none)

-- each part of a path is a name
pub part_is_name : (all before after : List (List ℕ)) (part : List ℕ) → all ≡ before ++ part ∷ after
    → IsFilePath all → name_fault part ≡ None
part_is_name all before after part same is =
    All-head (λ n. name_fault n ≡ None) part after
    (behind before (subst (All (λ n. name_fault n ≡ None)) same is.named))
  where
    behind : (before : List (List ℕ)) → All (λ n. name_fault n ≡ None) (before ++ part ∷ after)
        → All (λ n. name_fault n ≡ None) (part ∷ after)
    behind [] named = named
    behind (n ∷ before) named = behind before (All-tail (λ n. name_fault n ≡ None) n (before ++ part ∷ after) named)

-- the letters, the path and the rest of a text
pub line_apart : (file : List (List ℕ) × Attr) (rest text : List ℕ) → IsLettered file → text ≡ attrs_line file ++ rest
    → (l : List ℕ) × (letters file.1 ≡ Some l) × (text ≡ l ++ (codes " " ++ (path_text file.0 ++ line_feed ∷ rest)))
line_apart file rest text is same = apart (letters file.1) is.lettered same
  where
    apart : (o : Option (List ℕ)) → IsSome o
        → text ≡ (unwrap_or o [] ++ (codes " " ++ (path_text file.0 ++ codes "\n"))) ++ rest
        → (l : List ℕ) × (o ≡ Some l) × (text ≡ l ++ (codes " " ++ (path_text file.0 ++ line_feed ∷ rest)))
    apart None there line = absurd cc
    apart (Some l) there line = (l, refl, line ∙ simp append_assoc)

-- and the line that they make
pub line_whole : (path : List (List ℕ)) (attr : Attr) (l line after rest text : List ℕ) → letters attr ≡ Some l
    → path_text path ≡ line → text ≡ l ++ (codes " " ++ after) → after ≡ line ++ line_feed ∷ rest
    → text ≡ attrs_line (path, attr) ++ rest
line_whole path attr l line after rest text set spelled same apart =
    same ∙ rw (apart, set, spelled) (simp append_assoc)

-- the names that were read are a path
pub whole_path : (all names : List (List ℕ)) (result : Option (List (List ℕ))) → all ≡ names
    → MatchOption result (names ≡ []) (λ path. (path ≡ names) × IsFilePath path)
    → MatchOption result (IsFilePath all → ⊥) (λ path. (path ≡ all) × IsFilePath path)
whole_path all names None same given = λ is. is.some (same ∙ given)
whole_path all names (Some path) same given = (given.0 ∙ sym same, given.1)

-- the letters that were read
pub whole_letters : (o : Option (List ℕ)) (text after : List ℕ) → IsSomeAnd o (λ l. text ≡ l ++ (codes " " ++ after))
    → (l : List ℕ) × (o ≡ Some l) × (text ≡ l ++ (codes " " ++ after))
whole_letters None text after there = absurd there
whole_letters (Some l) text after there = (l, refl, there)
