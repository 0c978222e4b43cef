-- The program's own settings, and each command.
use Rattle.std.proofs.Common.{ap, ap₂, codes, true, ◌≡◌, ◌∙◌}
use Rattle.std.proofs.lemmas.Result.{IfOk-weaker}
use Rattle.clap.specs.Simple.{app_of_fields, on_top}
use Rattle.clap.specs.Words.{app_of, new_app}
use Rattle.tor_words.specs.CommandLine.{with_commands}
use Rattle.tor_words.proofs.command_line.tor_command.Goals as goal

pub returns : goal.returns
returns c =
    let versioned : app_of c.version.result
    ≡ on_top (λ shape. record shape { has_version = true }) (new_app (codes "tor"))
    =
    ap app_of_fields c.version.ensures
    ∙ ap (on_top (λ shape. record shape { has_version = true })) c.new.ensures.app in
    let told = ap app_of_fields c.after_help.ensures ∙ ap app_of_fields c.about.ensures ∙ versioned in
    let wanting =
    ap app_of_fields c.subcommand_required.ensures
    ∙ ap (on_top (λ shape. record shape { subcommand_required = true })) told in
    let top = ap app_of_fields c.in_ok-top.ensures.0 ∙ wanting in
    let (parsers, are) = c.torrent_commands.ensures in
    let over = c.in_ok-over_torrents.ensures ∙ ap₂ with_commands top are in
    IfOk-weaker c.with_tables-2.result _ _
    (λ command added. (parsers, added ∙ ap₂ with_commands over c.piece_commands.ensures))
    c.with_tables-2.ensures
