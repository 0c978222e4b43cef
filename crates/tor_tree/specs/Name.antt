-- Which byte strings may name a file or a folder (BEP 52, "file tree").
use Rattle.std.specs.Prelude.{ℕ, Bool, ◌==◌, List, length, Option, Some, None, codes, if◌then◌else◌}
use Rattle.std.specs.List.{list_any}
use Rattle.std.specs.Str.{bytes_eq, is_utf8}
use Rattle.tor_tree.specs.declared.names.NameError.{NameError}
use Rattle.tor_tree.specs.declared.names.NameError.TheVariants.{Empty, Dot, DotDot, Slash, Nul, NotUtf8}

-- some byte of the name is b
abbrev pub has_byte : ℕ → List ℕ → Bool
has_byte b name = list_any (λ x. x == b) name

-- the byte `/`
abbrev pub slash : ℕ
slash = 47

-- why a byte string is no name, the first of six causes. There may be none (BEP 52, "file tree"; profile)
abbrev pub name_fault : List ℕ → Option NameError
name_fault name =
    if length name == 0 then Some Empty else (
    if bytes_eq name (codes ".") then Some Dot else (
    if bytes_eq name (codes "..") then Some DotDot else (
    if has_byte slash name then Some Slash else (
    if has_byte 0 name then Some Nul else (
    if is_utf8 name then None else Some NotUtf8)))))
