-- What the facts of files that the maker accepts have: a torrent may be made of them, and their roots have 32 bytes.
use Rattle.tor_spec.proofs.Names.{◌≡◌, ℕ, ◌+◌, ◌≤◌, false, true≢false, List, [], ◌∷◌, length, map}
use Rattle.tor_spec.proofs.Names.{Option, IfSome, sum_by, refl, sym, ap, ◌∙◌, arith}
use Rattle.tor_spec.proofs.Names.{next_multiple_of, AllByRecursion, AllZip}
use Rattle.tor_spec.proofs.Names.{All-map, sum_by-cons, root_has_32_bytes, root_of, Facts, File, listed, roots_in}
use Rattle.tor_spec.proofs.Names.{total_size, AreMade, sizes_of, AreMakeable, facts_of_files, Settings}
use Rattle.tor_spec.proofs.Names.{lists_have_names, IsFileList, lengths_of}
use Rattle.tor_spec.proofs.Names.{attrs_in, attrs_of, HasItsRoot, lettered_files}
use Rattle.tor_spec.proofs.Names.{MAX_TOTAL}
use Rattle.tor_spec.proofs.Names.{ROUNDING, is_clear}
use Rattle.tor_spec.proofs.MadeHeads.{tree_file}

pub listed_made : (p : ℕ) (files : List File) → listed (facts_of_files p files) ≡ sizes_of files
listed_made p [] = refl
listed_made p (file ∷ files) = ap (λ rest. (file.path, length file.content) ∷ rest) (listed_made p files)

has_root : (path : List (List ℕ)) (content : List ℕ) → HasItsRoot (path, length content) (root_of content)
has_root path [] = ((λ some. absurd (true≢false (sym some))), (λ more. absurd (omega arith)))
has_root path (byte ∷ bytes) = ((λ some. omega arith), (λ more. refl))

-- each file has a root just where it is not empty
pub roots_made : (p : ℕ) (files : List File)
    → AllZip HasItsRoot (listed (facts_of_files p files)) (roots_in (facts_of_files p files))
roots_made p [] = tt
roots_made p (file ∷ files) = (has_root file.path file.content, roots_made p files)

abbrev pub Is32Bytes : Option (List ℕ) → Type 0
Is32Bytes root = IfSome root (λ bytes. length bytes ≡ 32)

hashed_root : (content : List ℕ) → Is32Bytes (root_of content)
hashed_root [] = tt
hashed_root (byte ∷ bytes) = root_has_32_bytes (byte ∷ bytes)

pub hashed_roots : (p : ℕ) (files : List File) → AllByRecursion Is32Bytes (roots_in (facts_of_files p files))
hashed_roots p [] = tt
hashed_roots p (file ∷ files) = (hashed_root file.content, hashed_roots p files)

-- what the file tree tells of files
pub made_lettered : (p : ℕ) (files : List File) → lettered_files (listed (facts_of_files p files))
    (attrs_in (facts_of_files p files)) (roots_in (facts_of_files p files)) ≡ map tree_file files
made_lettered p [] = refl
made_lettered p (file ∷ files) = ap (λ rest. tree_file file ∷ rest) (made_lettered p files)

pub attrs_made : (p : ℕ) (files : List File) → attrs_in (facts_of_files p files) ≡ attrs_of files
attrs_made p [] = refl
attrs_made p (file ∷ files) = ap (λ rest. file.attr ∷ rest) (attrs_made p files)

rounds_up : (ns : List ℕ) → sum_by (λ n. n) ns ≤ sum_by (λ n. next_multiple_of n ROUNDING) ns
rounds_up [] = omega arith
rounds_up (n ∷ ns) =
    omega
    (arith, sum_by-cons (λ (m : ℕ). m) n ns, sum_by-cons (λ (m : ℕ). next_multiple_of m ROUNDING) n ns, rounds_up ns)

-- all files of a list together are small
small_list : (files : List (List (List ℕ) × ℕ)) → IsFileList files → sum_by (λ n. n) (lengths_of files) ≤ MAX_TOTAL
small_list files is = omega (arith, rounds_up (lengths_of files), (is_clear files is.faultless).total)

total_listed : (facts : List Facts) → total_size facts ≡ sum_by (λ n. n) (lengths_of (listed facts))
total_listed [] = refl
total_listed (f ∷ fs) = sum_by-cons (λ (file : Facts). file.size) f fs ∙ ap (λ n. f.size + n) (total_listed fs)
    ∙ sym (sum_by-cons (λ (n : ℕ). n) f.size (lengths_of (listed fs)))

total_made : (p : ℕ) (files : List File) → IsFileList (sizes_of files)
    → total_size (facts_of_files p files) ≤ MAX_TOTAL
total_made p files is =
    let total =
    total_listed (facts_of_files p files) ∙ ap (λ fs. sum_by (λ n. n) (lengths_of fs)) (listed_made p files) in
    omega (arith, total, small_list (sizes_of files) is)

pub made_is_makeable : (settings : Settings) (files : List File) → AreMade settings files
    → AreMakeable settings (facts_of_files settings.piece_length files)
made_is_makeable settings files made =
    let p = settings.piece_length in
    let is_listed = listed_made p files in
    record {
      piece_length = made.piece_length;
      in_order = rw is_listed made.list.in_order;
      named = rw is_listed (lists_have_names (sizes_of files) made.list);
      short = rw is_listed (All-map (λ (file : List (List ℕ) × ℕ). length file.0 ≤ 64)
          (λ (file : File). (file.path, length file.content)) files made.short);
      rooted = λ e. roots_made p files;
      small = omega (arith, total_made p files made.list);
    }
