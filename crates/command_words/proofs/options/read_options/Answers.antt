use Rattle.std.proofs.Common.{◌≡◌, ◌+◌, ◌<◌, [], drop, get_or, length, map, subst, arith}
use Rattle.std.proofs.lemmas.List.{length-map}
use Rattle.std.specs.String.{string_bytes}
use Rattle.command_words.specs.declared.options.Given.{Given}
use Rattle.command_words.specs.Options.{Give, TakesPair}
use Rattle.command_words.proofs.Given.{same_pair}
use Rattle.command_words.proofs.Pairs.{alone, give_more, give_pair, word_at}
use Rattle.command_words.proofs.options.read_options.Goals as goal

pub returns-then-at-len : goal.returns-then-at-len
returns-then-at-len c = λ given p.
    let count : length (map string_bytes c.args.words.now.items) ≡ length c.args.words.now.items = length-map c.args.words.now.items string_bytes in
    alone c.loop-at.given given _ c.loop-at.at (omega (arith, count, c.if-at-len.true, c.len-in-loop-at.ensures, c.args.words.now.ok.0)) (c.loop-at.invariant.stays given p)

pub returns-in_default : goal.returns-in_default
returns-in_default c = λ given p.
    let count : length (map string_bytes c.args.words.now.items) ≡ length c.args.words.now.items = length-map c.args.words.now.items string_bytes in
    let within : c.loop-at.at + 1 < length c.args.words.now.items = omega (arith, c.if-at-len.false, c.loop-at-test.true, c.len.ensures, c.len-in-loop-at.ensures, c.args.words.now.ok.0) in
    let word = word_at string_bytes c.args.words.now.items c.loop-at.at c.index.result.now (omega arith) c.index.ensures in
    let value = word_at string_bytes c.args.words.now.items (c.loop-at.at + 1) c.index-in-loop-at.result.now within c.index-in-loop-at.ensures in
    let pair = give_pair c.loop-at.given given _ c.loop-at.at (omega (arith, count, within)) (c.loop-at.invariant.stays given p) in
    let none = rw c.in_default.is at c.with.ensures in
    none pair.0 (rw (← word, ← value) pair.1)

pub loop-at-preserved : goal.loop-at-preserved
loop-at-preserved c =
    let count : length (map string_bytes c.args.words.now.items) ≡ length c.args.words.now.items = length-map c.args.words.now.items string_bytes in
    let within : c.loop-at.at + 1 < length c.args.words.now.items = omega (arith, c.if-at-len.false, c.loop-at-test.true, c.len.ensures, c.len-in-loop-at.ensures, c.args.words.now.ok.0) in
    let word = word_at string_bytes c.args.words.now.items c.loop-at.at c.index.result.now (omega arith) c.index.ensures in
    let value = word_at string_bytes c.args.words.now.items (c.loop-at.at + 1) c.index-in-loop-at.result.now within c.index-in-loop-at.ensures in
    let takes = rw c.in-Some.is at c.with.ensures in
    let pair : TakesPair c.loop-at.given (get_or (map string_bytes c.args.words.now.items) c.loop-at.at []) (get_or (map string_bytes c.args.words.now.items) (c.loop-at.at + 1) []) c.in-Some.next = rw (word, value) takes in
    record {
      leads = λ after p. c.loop-at.invariant.leads after (give_more c.loop-at.given c.in-Some.next after _ c.loop-at.at (omega (arith, count, within)) pair p);
      stays = λ after p.
          let given = give_pair c.loop-at.given after _ c.loop-at.at (omega (arith, count, within)) (c.loop-at.invariant.stays after p) in
          subst (λ (g : Given). Give g (drop (c.loop-at.at + 2) (map string_bytes c.args.words.now.items)) after) (same_pair c.loop-at.given _ _ given.0 c.in-Some.next given.1 pair) given.2;
    }
