-- The path of an entry, from its texts.
use Rattle.tor_check.proofs.Names.{◌≡◌, ◌≢◌, ◌&&◌, ◌==◌, true, false, length, List, [], ◌∷◌, Some, map, refl, ap, ◌∙◌}
use Rattle.tor_check.proofs.Names.{list_all, length-map, Data, list, items_of, items_view, view, ItemRef, lists_some}
use Rattle.tor_check.proofs.Names.{is_name, is_path, names_of, items_in, text_of}

pub same_items : (values : List Data) → items_in (items_of values) ≡ values
same_items [] = refl
same_items (value ∷ values) = ap (λ more. value ∷ more) (same_items values)

pub names_from : (texts : List ItemRef) → names_of (list (items_view texts)) ≡ map text_of (map view texts)
names_from texts = ap (map text_of) (same_items (map view texts))

path_of_some : (text : ItemRef) (texts : List ItemRef)
    → is_path (Some (list (items_view (text ∷ texts)))) ≡ list_all is_name (map view (text ∷ texts))
path_of_some text texts = ap (λ values. is_name (view text) && list_all is_name values) (same_items (map view texts))

pub is_path_of_names : (texts : List ItemRef) → list_all is_name (map view texts) ≡ true
    → map text_of (map view texts) ≢ [] → is_path (Some (list (items_view texts))) ≡ true
is_path_of_names [] named some = absurd (some refl)
is_path_of_names (text ∷ texts) named some = path_of_some text texts ∙ named

pub no_path_of_others : (texts : List ItemRef) → list_all is_name (map view texts) ≡ false
    → is_path (Some (list (items_view texts))) ≡ false
no_path_of_others [] other = refl
no_path_of_others (text ∷ texts) other = path_of_some text texts ∙ other

pub some_texts : (texts : List ItemRef) → (length texts == 0) ≡ false → lists_some (list (items_view texts)) ≡ true
some_texts texts some = rw (same_items (map view texts), length-map texts view, some) refl
