-- One more entry of the content of a version 1 torrent.
use Rattle.std.proofs.Common.{◌≡◌, ℕ, ◌+◌, ◌<◌, ◌≤◌, true, false, List, [], ◌∷◌, ◌++◌, length, get_or, drop}
use Rattle.std.proofs.Common.{slice_index_or, sym, ap, ◌∙◌, append_assoc, arith, refl}
use Rattle.std.proofs.lemmas.List.{append-nil, drop_all, drop_more}
use Rattle.tor_v1.specs.Content.{joined_content}
use Rattle.tor_v1.specs.Piece.{zeros}
use Rattle.tor_v1.specs.declared.entry.Entry.{Entry}

pub joined-padding : (entry : Entry) (entries : List Entry) (contents : List (List ℕ)) → entry.pad ≡ true
    → joined_content (entry ∷ entries) contents ≡ zeros entry.length ++ joined_content entries contents
unfolding joined_content
joined-padding entry entries contents pad = rw pad refl

pub joined-file : (entry : Entry) (entries : List Entry) (contents : List (List ℕ)) → entry.pad ≡ false
    → joined_content (entry ∷ entries) contents
    ≡ slice_index_or contents 0 [] ++ joined_content entries (drop 1 contents)
unfolding joined_content
joined-file entry entries contents pad = rw pad refl

-- so much of a content is fed, and the entries from here on are left
abbrev pub IsLeft : List ℕ → List Entry → ℕ → List (List ℕ) → List ℕ → Type 0
IsLeft fed entries i contents whole = fed ++ joined_content (drop i entries) contents ≡ whole

pub left_padding : (fed : List ℕ) (entries : List Entry) (i : ℕ) (contents : List (List ℕ)) (whole : List ℕ)
    (entry : Entry)
    → i < length entries → entry ≡ get_or entries i entry → entry.pad ≡ true → IsLeft fed entries i contents whole
    → IsLeft (fed ++ zeros entry.length) entries (i + 1) contents whole
left_padding fed entries i contents whole entry within is pad left =
    append_assoc fed (zeros entry.length) (joined_content (drop (i + 1) entries) contents)
    ∙ ap (λ bytes. fed ++ bytes) (sym (joined-padding entry (drop (i + 1) entries) contents pad))
    ∙ ap (λ es. fed ++ joined_content es contents) (sym (drop_more entries i entry within
    ∙ ap (λ e. e ∷ drop (i + 1) entries) (sym is)))
    ∙ left

pub left_file : (fed : List ℕ) (entries : List Entry) (i : ℕ) (contents : List (List ℕ)) (whole : List ℕ)
    (entry : Entry)
    → i < length entries → entry ≡ get_or entries i entry → entry.pad ≡ false → IsLeft fed entries i contents whole
    → IsLeft (fed ++ slice_index_or contents 0 []) entries (i + 1) (drop 1 contents) whole
left_file fed entries i contents whole entry within is pad left =
    append_assoc fed (slice_index_or contents 0 []) (joined_content (drop (i + 1) entries) (drop 1 contents))
    ∙ ap (λ bytes. fed ++ bytes) (sym (joined-file entry (drop (i + 1) entries) contents pad))
    ∙ ap (λ es. fed ++ joined_content es contents) (sym (drop_more entries i entry within
    ∙ ap (λ e. e ∷ drop (i + 1) entries) (sym is)))
    ∙ left

-- the next content
pub left_next : (fed : List ℕ) (entries : List Entry) (i : ℕ) (contents : List (List ℕ)) (whole : List ℕ)
    (entry : Entry) (content : List ℕ) (rest : List (List ℕ))
    → contents ≡ content ∷ rest → i < length entries → entry ≡ get_or entries i entry → entry.pad ≡ false
    → IsLeft fed entries i contents whole
    → IsLeft (fed ++ content) entries (i + 1) rest whole
left_next fed entries i contents whole entry content rest split within is pad left =
    left_file fed entries i (content ∷ rest) whole entry within is pad (rw split at left)

-- where no content is left, a file counts as empty
pub left_none : (fed : List ℕ) (entries : List Entry) (i : ℕ) (contents : List (List ℕ)) (whole : List ℕ)
    (entry : Entry)
    → contents ≡ [] → i < length entries → entry ≡ get_or entries i entry → entry.pad ≡ false
    → IsLeft fed entries i contents whole
    → IsLeft fed entries (i + 1) contents whole
left_none fed entries i contents whole entry none within is pad left =
    rw none (rw append-nil at (left_file fed entries i [] whole entry within is pad (rw none at left)))

joined-none : (contents : List (List ℕ)) → joined_content [] contents ≡ []
unfolding joined_content
joined-none contents = refl

-- where no entry is left, all is fed
pub all_fed : (fed : List ℕ) (entries : List Entry) (i : ℕ) (contents : List (List ℕ)) (whole : List ℕ)
    → length entries ≤ i → IsLeft fed entries i contents whole → fed ≡ whole
all_fed fed entries i contents whole past left =
    sym (append-nil fed) ∙ ap (λ bytes. fed ++ bytes) (sym (joined-none contents))
    ∙ ap (λ es. fed ++ joined_content es contents) (sym (drop_all i entries past)) ∙ left

pub no_items : {X : Type 0} (xs : List X) → length xs ≡ 0 → xs ≡ []
no_items [] none = refl
no_items (x ∷ xs) none = absurd (omega arith)
