-- The settings that a head stands for.
use Rattle.std.specs.Prelude.{option_map}
use Rattle.tor_meta.specs.declared.head.Head.{Head}
use Rattle.tor_spec.specs.Settings.{Settings}

-- the settings that a head stands for (profile)
abbrev pub settings_of : Head → Settings
settings_of head = record {
  kind = head.kind;
  single = head.single;
  name = head.name;
  piece_length = head.piece_length;
  announce = option_map (λ url. url.items) head.announce;
  is_private = head.is_private;
  tail = head.tail;
}
