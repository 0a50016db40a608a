-- The tokens so far lead the reader to where it is. Each token ends behind its first byte, so they are no more than the bytes passed.
use Rattle.std.proofs.Common.{length, ◌-◌, ◌≡◌, ◌≤◌, List}
use Rattle.efg_token.specs.Cursor.{left}
use Rattle.efg_token.specs.Lexeme.{Lexeme}
use Rattle.efg_lines.specs.declared.state.State.TheVariants.{Format}
use Rattle.efg_lines.specs.Draft.{start}
use Rattle.efg_lines.specs.FileTokens.{StandFirst}
use Rattle.efg_lines.proofs.ReadsBack.{Reads}
use Rattle.efg_lines.proofs.lines.read_lines.Given as goal

abbrev pub invariant-loop-next : goal.invariant-loop-next
invariant-loop-next l = record {
  input : l.tokens.bytes ≡ l.bytes;
  within : l.tokens.at ≤ length l.bytes;
  counted : l.reader.players ≤ l.tokens.at;
  passed : List Lexeme;
  stand : StandFirst l.bytes passed (left l.tokens);
  reads : Reads (start Format) passed l.reader;
}

abbrev pub decreases-loop-next : goal.decreases-loop-next
decreases-loop-next l = length l.bytes - l.tokens.at
