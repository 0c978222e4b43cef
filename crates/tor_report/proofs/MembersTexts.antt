-- The texts of members and items.
use Rattle.std.proofs.Common.{◌≡◌, ◌∙◌, refl, sym, ap, ap₂, ℕ, ◌-◌, Bool, List, [], ◌∷◌, ◌++◌, append_assoc, codes}
use Rattle.std.proofs.Common.{map, true}
use Rattle.std.specs.Prelude.{Option, decimal, flat_map}
use Rattle.std.specs.List.{zip}
use Rattle.json.specs.Print.{escape_byte, quoted}
use Rattle.serde_json.specs.Data.{Data, array, boolean, object}
use Rattle.serde_json.specs.View.{items_of}
use Rattle.serde_json.specs.Written.{compact_text, items_text}
use Rattle.tor_bencode.specs.Data.{Data as Tree}
use Rattle.tor_spec.specs.declared.hashes.Hashes.{Hashes}
use Rattle.tor_view.specs.FileBytes.{PiecedFile}
use Rattle.tor_view.specs.declared.spans.FileSpan.{FileSpan}
use Rattle.tor_spec.specs.valid.View.{FileView, View}
use Rattle.tor_tree.specs.declared.tree_file.TreeFile.{TreeFile}
use Rattle.tor_report.specs.Records.{file_data, files_data, hash_data, members_of, path_data, placed_data, total_length}
use Rattle.tor_report.specs.Servers.{announce_data, announce_list_data, url_list_data}
use Rattle.tor_report.specs.Words.{word_of}
use Rattle.tor_report.specs.steps.Members.{after_files, announce_list_member, announce_member, before_files}
use Rattle.tor_report.specs.steps.Members.{hash_members, item_after, plain_members}

-- ---- segments

pub hash_segments : (hashes : Hashes) (v1 v2 : Option (List ℕ)) → v1 ≡ hashes.v1 → v2 ≡ hashes.v2
    → codes ",\"btih\":" ++ (compact_text (hash_data [] v1) ++ (codes ",\"btmh\":"
    ++ (compact_text (hash_data (codes "1220") v2) ++ codes ",\"files\":"))) ≡ hash_members hashes
hash_segments hashes v1 v2 a b = rw (a, b) refl

pub plain_segments : (view : View) (kind name : List ℕ) (piece_length pieces total : ℕ) (private : Bool)
    → kind ≡ word_of view.kind → name ≡ view.name → piece_length ≡ view.piece_length → pieces ≡ view.piece_count
    → private ≡ view.is_private → total ≡ total_length view.files
    → codes ",\"kind\":" ++ (quoted kind ++ (codes ",\"name\":" ++ (quoted name ++ (codes ",\"piece_length\":"
    ++ (decimal piece_length ++ (codes ",\"pieces\":" ++ (decimal pieces ++ (codes ",\"private\":"
    ++ (compact_text (boolean private) ++ (codes ",\"total\":" ++ (decimal total
    ++ codes ",\"url_list\":"))))))))))) ≡ plain_members view
plain_segments view kind name piece_length pieces total private a b c d e f = rw (a, b, c, d, e, f) refl

pub file_segments : (file : TreeFile) (span : FileSpan) (first count : ℕ) (root : Option (List ℕ))
    → first ≡ span.first → count ≡ span.after - span.first → root ≡ file.root
    → codes "{\"exec\":" ++ (compact_text (boolean file.exec) ++ (codes ",\"first_piece\":" ++ (decimal first
    ++ (codes ",\"hidden\":" ++ (compact_text (boolean file.hidden) ++ (codes ",\"length\":" ++ (decimal file.length
    ++ (codes ",\"path\":" ++ (compact_text (path_data file.path) ++ (codes ",\"pieces\":" ++ (decimal count
    ++ (codes ",\"root\":" ++ (compact_text (hash_data [] root) ++ codes "}")))))))))))))
    ≡ compact_text (file_data file span)
unfolding escape_byte
file_segments file span first count root a b c = rw (a, b, c) refl

-- ---- arrays

-- the items of an array after the first, and the bracket that closes it
items_after : {X : Type 0} (tell : X → Data) (xs : List X)
    → flat_map (item_after tell) xs ++ 93 ∷ [] ≡ items_text true (items_of (map tell xs))
items_after tell [] = refl
items_after tell (x ∷ xs) =
    ap (λ (text : List ℕ). 44 ∷ text)
    (append_assoc (compact_text (tell x)) (flat_map (item_after tell) xs) (93 ∷ [])
    ∙ ap (λ (text : List ℕ). compact_text (tell x) ++ text) (items_after tell xs))

pub array_text : {X : Type 0} (tell : X → Data) (xs others : List X) (first : X) → xs ≡ first ∷ others
    → (91 ∷ compact_text (tell first)) ++ (flat_map (item_after tell) others ++ 93 ∷ [])
    ≡ compact_text (array (items_of (map tell xs)))
array_text {X = X} tell xs others first is =
    ap (λ (text : List ℕ). 91 ∷ (compact_text (tell first) ++ text)) (items_after tell others)
    ∙ ap (λ (all : List X). compact_text (array (items_of (map tell all)))) (sym is)

pub files_text : (files others : List FileView) (first : FileView) (pieces of_others : List PiecedFile)
    (of_first : PiecedFile) → files ≡ first ∷ others → pieces ≡ of_first ∷ of_others
    → (91 ∷ compact_text (file_data first.file of_first.span))
    ++ (flat_map (item_after placed_data) (zip others of_others) ++ 93 ∷ []) ≡ compact_text (files_data files pieces)
files_text files others first pieces of_others of_first is same =
    array_text placed_data (zip files pieces) (zip others of_others) (first, of_first)
    (ap₂ (λ (xs : List FileView) (ys : List PiecedFile). zip xs ys) is same)

pub no_array : {X : Type 0} (tell : X → Data) (xs : List X) → xs ≡ []
    → codes "[]" ≡ compact_text (array (items_of (map tell xs)))
no_array tell xs none = rw none refl

pub without_files : (files : List FileView) (pieces : List PiecedFile) → files ≡ []
    → codes "[]" ≡ compact_text (files_data files pieces)
without_files files pieces none = rw none refl

pub without_pieces : (files : List FileView) (pieces : List PiecedFile) → pieces ≡ []
    → codes "[]" ≡ compact_text (files_data files pieces)
without_pieces [] pieces none = refl
without_pieces (first ∷ others) pieces none = rw none refl

-- ---- the object

two : (k v m n rest : List ℕ) → m ++ rest ≡ n → (k ++ (v ++ m)) ++ rest ≡ k ++ (v ++ n)
two k v m n rest same =
    append_assoc k (v ++ m) rest
    ∙ ap (λ (xs : List ℕ). k ++ xs) (append_assoc v m rest ∙ ap (λ (xs : List ℕ). v ++ xs) same)

four : (k v l w m rest : List ℕ) → (k ++ (v ++ (l ++ (w ++ m)))) ++ rest ≡ k ++ (v ++ (l ++ (w ++ (m ++ rest))))
four k v l w m rest = two k v (l ++ (w ++ m)) (l ++ (w ++ (m ++ rest))) rest (two l w m (m ++ rest) rest refl)

twelve : (a b c d e f g h i j k l m rest : List ℕ)
    → (a ++ (b ++ (c ++ (d ++ (e ++ (f ++ (g ++ (h ++ (i ++ (j ++ (k ++ (l ++ m)))))))))))) ++ rest
    ≡ a ++ (b ++ (c ++ (d ++ (e ++ (f ++ (g ++ (h ++ (i ++ (j ++ (k ++ (l ++ (m ++ rest))))))))))))
twelve a b c d e f g h i j k l m rest =
    let last = i ++ (j ++ (k ++ (l ++ m))) in
    let ended = i ++ (j ++ (k ++ (l ++ (m ++ rest)))) in
    two a b (c ++ (d ++ (e ++ (f ++ (g ++ (h ++ last)))))) (c ++ (d ++ (e ++ (f ++ (g ++ (h ++ ended)))))) rest
    (two c d (e ++ (f ++ (g ++ (h ++ last)))) (e ++ (f ++ (g ++ (h ++ ended)))) rest
    (two e f (g ++ (h ++ last)) (g ++ (h ++ ended)) rest (two g h last ended rest (four i j k l m rest))))

hashes_and : (hashes : Hashes) (rest : List ℕ) → hash_members hashes ++ rest
    ≡ codes ",\"btih\":" ++ (compact_text (hash_data [] hashes.v1) ++ (codes ",\"btmh\":"
    ++ (compact_text (hash_data (codes "1220") hashes.v2) ++ (codes ",\"files\":" ++ rest))))
hashes_and hashes rest =
    four (codes ",\"btih\":") (compact_text (hash_data [] hashes.v1)) (codes ",\"btmh\":")
    (compact_text (hash_data (codes "1220") hashes.v2)) (codes ",\"files\":") rest

plain_and : (view : View) (rest : List ℕ) → plain_members view ++ rest
    ≡ codes ",\"kind\":" ++ (quoted (word_of view.kind) ++ (codes ",\"name\":" ++ (quoted view.name
    ++ (codes ",\"piece_length\":" ++ (decimal view.piece_length ++ (codes ",\"pieces\":"
    ++ (decimal view.piece_count ++ (codes ",\"private\":" ++ (compact_text (boolean view.is_private)
    ++ (codes ",\"total\":" ++ (decimal (total_length view.files) ++ (codes ",\"url_list\":" ++ rest))))))))))))
plain_and view rest =
    twelve (codes ",\"kind\":") (quoted (word_of view.kind)) (codes ",\"name\":") (quoted view.name)
    (codes ",\"piece_length\":") (decimal view.piece_length) (codes ",\"pieces\":") (decimal view.piece_count)
    (codes ",\"private\":") (compact_text (boolean view.is_private)) (codes ",\"total\":")
    (decimal (total_length view.files)) (codes ",\"url_list\":") rest

before_and : (root : Tree) (hashes : Hashes) (rest : List ℕ) → before_files root hashes ++ rest
    ≡ codes "{\"announce\":" ++ (compact_text (announce_data root) ++ (codes ",\"announce_list\":"
    ++ (compact_text (announce_list_data root) ++ (hash_members hashes ++ rest))))
before_and root hashes rest =
    append_assoc (announce_member root) (announce_list_member root ++ hash_members hashes) rest
    ∙ append_assoc (codes "{\"announce\":") (compact_text (announce_data root))
    ((announce_list_member root ++ hash_members hashes) ++ rest)
    ∙ ap (λ (xs : List ℕ). codes "{\"announce\":" ++ (compact_text (announce_data root) ++ xs))
    (append_assoc (announce_list_member root) (hash_members hashes) rest
    ∙ append_assoc (codes ",\"announce_list\":") (compact_text (announce_list_data root)) (hash_members hashes ++ rest))

-- the object: the members before the files, the files, the members after them
pub object_text : (root : Tree) (view : View) (pieces : List PiecedFile) (hashes : Hashes)
    → before_files root hashes ++ (compact_text (files_data view.files pieces) ++ after_files root view)
    ≡ compact_text (object (members_of root view pieces hashes))
unfolding escape_byte
object_text root view pieces hashes =
    before_and root hashes (compact_text (files_data view.files pieces) ++ after_files root view)
    ∙ ap (λ (xs : List ℕ). codes "{\"announce\":" ++ (compact_text (announce_data root)
    ++ (codes ",\"announce_list\":" ++ (compact_text (announce_list_data root) ++ xs))))
    (hashes_and hashes (compact_text (files_data view.files pieces) ++ after_files root view)
    ∙ ap (λ (xs : List ℕ). codes ",\"btih\":" ++ (compact_text (hash_data [] hashes.v1) ++ (codes ",\"btmh\":"
    ++ (compact_text (hash_data (codes "1220") hashes.v2) ++ (codes ",\"files\":"
    ++ (compact_text (files_data view.files pieces) ++ xs))))))
    (plain_and view (compact_text (url_list_data root) ++ codes "}")))
