-- What the properties of a file say that are written for its letters, its length and its root.
use Rattle.tor_tree.proofs.Cited.{◌≡◌, ◌==◌, ℕ, ◌<◌, ◌≤◌, ◌↔◌, ◌^◌, Bool, true, false, List, Option, None, Some, pos}
use Rattle.tor_tree.proofs.Cited.{codes, cond, refl, arith, rules, is_some, if◌then◌else◌, IsSome, ne_eqb, le-ltb}
use Rattle.tor_tree.proofs.Cited.{Data, dictionary}
use Rattle.tor_tree.proofs.Cited.{integer, no_pairs, pair, HasRisingKeys, HasSmallIntegers, depth, Attr, letters}
use Rattle.tor_tree.proofs.Cited.{are_properties, file_of, has_letter, has_negative_length, letter_l, properties_for}
use Rattle.tor_tree.proofs.Cited.{with_string, HasItsRoot, TreeFile}

-- the properties with any text as `attr`
abbrev pub with_text : Option (List ℕ) → ℕ → Option (List ℕ) → Data
with_text text n root =
    dictionary (with_string (codes "attr") text
    (pair (codes "length") (integer (pos n)) (with_string (codes "pieces root") root no_pairs)))

depth_of : (text : Option (List ℕ)) (n : ℕ) (root : Option (List ℕ)) → depth (with_text text n root) ≤ 1
depth_of None n None = omega arith
depth_of None n (Some root) = omega arith
depth_of (Some text) n None = omega arith
depth_of (Some text) n (Some root) = omega arith

pub properties_depth : (attr : Attr) (n : ℕ) (root : Option (List ℕ)) → depth (properties_for attr n root) ≤ 1
properties_depth attr n root = depth_of (letters attr) n root

fits : (text : Option (List ℕ)) (n : ℕ) (root : Option (List ℕ)) → n < 2 ^ 63
    → HasSmallIntegers (with_text text n root)
fits None n None small = search rules
fits None n (Some root) small = search rules
fits (Some text) n None small = search rules
fits (Some text) n (Some root) small = search rules

pub properties_fit : (attr : Attr) (n : ℕ) (root : Option (List ℕ)) → n < 2 ^ 63
    → HasSmallIntegers (properties_for attr n root)
properties_fit attr n root small = fits (letters attr) n root small

rising : (text : Option (List ℕ)) (n : ℕ) (root : Option (List ℕ)) → HasRisingKeys (with_text text n root)
rising None n None = (tt, (tt, tt))
rising None n (Some root) = ((refl, tt), (tt, (tt, tt)))
rising (Some text) n None = ((refl, tt), (tt, (tt, tt)))
rising (Some text) n (Some root) = ((refl, (refl, tt)), (tt, (tt, (tt, tt))))

pub rising_properties : (attr : Attr) (n : ℕ) (root : Option (List ℕ)) → HasRisingKeys (properties_for attr n root)
rising_properties attr n root = rising (letters attr) n root

shaped : (text : Option (List ℕ)) (n : ℕ) (root : Option (List ℕ)) → are_properties (with_text text n root) ≡ true
shaped None n None = refl
shaped None n (Some root) = refl
shaped (Some text) n None = refl
shaped (Some text) n (Some root) = refl

pub shaped_properties : (attr : Attr) (n : ℕ) (root : Option (List ℕ))
    → are_properties (properties_for attr n root) ≡ true
shaped_properties attr n root = shaped (letters attr) n root

not_negative : (text : Option (List ℕ)) (n : ℕ) (root : Option (List ℕ))
    → has_negative_length (with_text text n root) ≡ false
not_negative None n None = le-ltb n 0 (omega arith)
not_negative None n (Some root) = le-ltb n 0 (omega arith)
not_negative (Some text) n None = le-ltb n 0 (omega arith)
not_negative (Some text) n (Some root) = le-ltb n 0 (omega arith)

pub whole_length : (attr : Attr) (n : ℕ) (root : Option (List ℕ))
    → has_negative_length (properties_for attr n root) ≡ false
whole_length attr n root = not_negative (letters attr) n root

-- the letters are never `l`
no_link_in : (exec hidden : Bool) (n : ℕ) (root : Option (List ℕ))
    → has_letter letter_l (properties_for (record { exec = exec; hidden = hidden }) n root) ≡ false
no_link_in true true n root = refl
no_link_in true false n root = refl
no_link_in false true n root = refl
no_link_in false false n None = refl
no_link_in false false n (Some root) = refl

pub no_link_letter : (attr : Attr) (n : ℕ) (root : Option (List ℕ))
    → has_letter letter_l (properties_for attr n root) ≡ false
no_link_letter attr n root = no_link_in attr.exec attr.hidden n root

-- the file that `properties_for` describes
abbrev pub made_of : List (List ℕ) → Attr → ℕ → Option (List ℕ) → TreeFile
made_of path attr n root = record {
  path = path;
  length = n;
  root = root;
  has_attr = is_some (letters attr);
  exec = attr.exec;
  hidden = attr.hidden;
}

-- what is told of letters and a root
told : (path : List (List ℕ)) (exec hidden : Bool) (n : ℕ) (root : Option (List ℕ))
    → file_of (path, properties_for (record { exec = exec; hidden = hidden }) n root)
    ≡ record {
      path = path;
      length = n;
      root = if n == 0 then None else root;
      has_attr = is_some (letters (record { exec = exec; hidden = hidden }));
      exec = exec;
      hidden = hidden;
    }
told path true true n None = refl
told path true true n (Some root) = refl
told path true false n None = refl
told path true false n (Some root) = refl
told path false true n None = refl
told path false true n (Some root) = refl
told path false false n None = refl
told path false false n (Some root) = refl

cond_same : {X : Type 0} (b : Bool) (x : X) → cond b x x ≡ x
cond_same true x = refl
cond_same false x = refl

own_root : (n : ℕ) (root : Option (List ℕ)) → (IsSome root ↔ (0 < n)) → (if n == 0 then None else root) ≡ root
own_root n None h = cond_same (n == 0) None
own_root n (Some root) h =
    let positive : 0 < n = h.0 refl in
    let some : (n == 0) ≡ false = ne_eqb n 0 (λ e. absurd (omega arith)) in
    rw some refl

pub made_file : (path : List (List ℕ)) (attr : Attr) (n : ℕ) (root : Option (List ℕ)) → HasItsRoot (path, n) root
    → file_of (path, properties_for attr n root) ≡ made_of path attr n root
made_file path attr n root h = rw (told path attr.exec attr.hidden n root, own_root n root h) refl
