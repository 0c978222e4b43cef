-- The settings that an order stands for, and the spans that it may have.
use Rattle.std.specs.Prelude.{ℕ, Bool, ◌&&◌, not, nat_le, option_map}
use Rattle.std.specs.Int.{is_power_of_two}
use Rattle.tor_meta.specs.declared.order.Order.{Order}
use Rattle.tor_meta.specs.declared.order.TheConstants.{MAX_SPAN}
use Rattle.tor_spec.specs.Settings.{Settings}

-- the settings that an order stands for (profile)
abbrev pub settings_of_order : Order → Settings
settings_of_order order = record {
  kind = order.kind;
  single = order.single;
  name = order.name;
  piece_length = order.piece_length;
  announce = option_map (λ url. url.items) order.announce;
  is_private = order.is_private;
  tail = order.tail;
}

-- where files are aligned, these settings ask for a tail: one file by itself has none
abbrev pub has_tail : Settings → Bool
has_tail settings = not settings.single && settings.tail

-- a power of two from 1 to 1,024
abbrev pub is_span : ℕ → Bool
is_span span = is_power_of_two span && (nat_le 1 span && nat_le span MAX_SPAN)
