-- What is read of a file's dictionary, from its parts.
use Rattle.tor_check.proofs.Names.{◌≡◌, ℕ, ℤ, true, ◌||◌, cond, List, [], Option, None, Some, is_some, is_none}
use Rattle.tor_check.proofs.Names.{unwrap_or, codes, refl, ap, Data, value_of, marks_in, marks_of, letter_p, has_attr}
use Rattle.tor_check.proofs.Names.{has_byte}
use Rattle.tor_check.proofs.Names.{are_properties, as_integer, as_string, letters_of, letter_l, letter_x, letter_h}

with_attr : (attr : Option Data) (letters : List ℕ) → cond (is_none attr) (Some []) (as_string attr) ≡ Some letters
    → ((is_none attr || is_some (as_string attr)) ≡ true) × (unwrap_or (as_string attr) [] ≡ letters)
with_attr None letters e = (refl, cc)
with_attr (Some d) letters e = (rw e refl, rw e refl)

pub marks_from : (file : Data) (n : ℤ) (letters : List ℕ) → as_integer (value_of (codes "length") file) ≡ Some n
    → letters_of file ≡ Some letters
    → marks_in file ≡ Some (record {
      length = n;
      has_attr = has_attr file;
      pad = has_byte letter_p letters;
      link = has_byte letter_l letters;
      exec = has_byte letter_x letters;
      hidden = has_byte letter_h letters;
    })
marks_from file n letters is_length is_attr =
    let attr = with_attr (value_of (codes "attr") file) letters is_attr in
    let shaped : are_properties file ≡ true = rw (is_length, attr.0) refl in
    let marks : marks_of file ≡ record {
      length = n;
      has_attr = has_attr file;
      pad = has_byte letter_p letters;
      link = has_byte letter_l letters;
      exec = has_byte letter_x letters;
      hidden = has_byte letter_h letters;
    } = rw (is_length, attr.1) refl in
    rw shaped (ap Some marks)
