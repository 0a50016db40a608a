-- The lines of a generated game's file: those of its pieces, as numbers have none.
use Rattle.std.proofs.Common.{◌≡◌, ℕ, zero, suc, ◌+◌, ◌*◌, ◌/◌, ◌%◌, ◌<◌, ◌≤◌, ◌^◌, false, ◌==◌, List, [], ◌∷◌, ◌++◌}
use Rattle.std.proofs.Common.{codes, length, length-append, refl, ap, ◌∙◌, arith}
use Rattle.std.proofs.lemmas.Bool.Decides.{nat_tests}
use Rattle.std.proofs.lemmas.Fmt.{decimal_is_IsNumeral_wide}
use Rattle.std.proofs.lemmas.List.Elements.{filter-append}
use Rattle.std.proofs.lemmas.Str.Parse.{digit_from_value}
use Rattle.std.specs.Fmt.{decimal}
use Rattle.std.specs.List.{filter}
use Rattle.std.specs.Str.Parse.{AllDigits}
use Rattle.answer_text.specs.SummaryText.{node_count}
use Rattle.game_gen.specs.declared.kinds.Kind.{Kind}
use Rattle.game_gen.specs.declared.kinds.Kind.TheVariants.{Public, Dilemma, Chain}
use Rattle.game_gen.specs.GameText.{bargain_lines, below_text, chain_move, chain_moves, chance_action, chance_line, dilemma_outcome}
use Rattle.game_gen.specs.GameText.{drawn_leaf, drawn_leaves}
use Rattle.game_gen.specs.GameText.{game_lines, game_text, greatest, kind_name, leaf_line, move_line, public_outcome, second_line, title}
use Rattle.game_gen.specs.Random.{draw}
use Rattle.text_laws.proofs.Drawing.{is_digit}
use Rattle.text_laws.proofs.Words.{added}

-- the lines of a text, each of which ends with a line feed
abbrev line_count : List ℕ → ℕ
line_count text = length (filter (λ (byte : ℕ). byte == 10) text)

append_lines : (xs ys : List ℕ) → line_count (xs ++ ys) ≡ line_count xs + line_count ys
append_lines xs ys =
    ap (λ (feeds : List ℕ). length feeds) (filter-append (λ (byte : ℕ). byte == 10) xs ys)
    ∙ length-append (filter (λ (byte : ℕ). byte == 10) xs) (filter (λ (byte : ℕ). byte == 10) ys)

-- the lines of all pieces
abbrev total : List (List ℕ) → ℕ
total [] = 0
total (piece ∷ rest) = line_count piece + total rest

added_lines : (first : List ℕ) (rest : List (List ℕ)) → line_count (added first rest) ≡ line_count first + total rest
added_lines first [] = omega arith
added_lines first (piece ∷ rest) = omega (arith, added_lines (first ++ piece) rest, append_lines first piece)

digit_lines : (ds : List ℕ) → AllDigits 10 ds → line_count ds ≡ 0
digit_lines [] digits = refl
digit_lines (d ∷ ds) digits =
    let high : 48 ≤ d = (digit_from_value d digits.0).0 in
    let apart : (d == 10) ≡ false = grind (arith, nat_tests) in
    rw apart (digit_lines ds digits.1)

number_lines : (n : ℕ) → n < 10 ^ 64 → line_count (decimal n) ≡ 0
number_lines n small = digit_lines (decimal n) (decimal_is_IsNumeral_wide n small).0.1

below_lines : (n each : ℕ) (text : ℕ → List ℕ) → ((k : ℕ) → k < n → line_count (text k) ≡ each)
    → line_count (below_text n text) ≡ n * each
unfolding below_text
below_lines zero each text h = omega arith
below_lines (suc n) each text h =
    let before = below_lines n each text (λ k less. h k (omega (arith, less))) in
    omega (arith, append_lines (below_text n text) (text n), h n (omega arith), before)

leaf_lines : (number one two : ℕ) → number < 10 ^ 64 → one < 10 ^ 64 → two < 10 ^ 64 → line_count (leaf_line number one two) ≡ 1
unfolding leaf_line
leaf_lines number one two a b c =
    let whole : line_count (leaf_line number one two) ≡ 0 + (line_count (decimal number) + (0 + (line_count (decimal one)
    + (0 + (line_count (decimal two) + (1 + 0)))))) =
    added_lines (codes "t \"\" ") (decimal number ∷ codes " { " ∷ decimal one ∷ codes " " ∷ decimal two ∷ codes " }\n" ∷ []) in
    omega (arith, whole, number_lines number a, number_lines one b, number_lines two c)

drawn_lines : (seed leaf : ℕ) → leaf < 1000 → line_count (drawn_leaf seed leaf) ≡ 1
unfolding drawn_leaf
drawn_lines seed leaf small =
    leaf_lines (leaf + 1) (draw seed (leaf * 2)) (draw seed (leaf * 2 + 1)) (omega (arith, small))
    (omega (arith, is_digit seed (leaf * 2))) (omega (arith, is_digit seed (leaf * 2 + 1)))

two_drawn_lines : (seed leaf : ℕ) → leaf < 999 → line_count (drawn_leaves seed leaf) ≡ 2
unfolding drawn_leaves
two_drawn_lines seed leaf small =
    omega (
      arith,
      append_lines (drawn_leaf seed leaf) (drawn_leaf seed (leaf + 1)),
      drawn_lines seed leaf (omega (arith, small)),
      drawn_lines seed (leaf + 1) (omega (arith, small)),
    )

bargain_two : (set : ℕ) → set < 10 ^ 64 → line_count (bargain_lines set) ≡ 2
unfolding bargain_lines
bargain_two set small =
    let whole : line_count (bargain_lines set) ≡ 0 + (line_count (decimal set) + (1 + (line_count (decimal set) + (1 + 0)))) =
    added_lines (codes "p \"\" 1 ")
    (decimal set ∷ codes " { \"C\" \"D\" } 0\np \"\" 2 " ∷ decimal set ∷ codes " { \"C\" \"D\" } 0\n" ∷ []) in
    omega (arith, whole, number_lines set small)

second_one : (set : ℕ) → set < 10 ^ 64 → line_count (second_line set) ≡ 1
unfolding second_line
second_one set small =
    let whole : line_count (second_line set) ≡ 0 + (line_count (decimal set) + (1 + 0)) =
    added_lines (codes "p \"\" 2 ") (decimal set ∷ codes " 0\n" ∷ []) in
    omega (arith, whole, number_lines set small)

public_seven : (seed outcome : ℕ) → outcome < 64 → line_count (public_outcome seed outcome) ≡ 7
unfolding public_outcome
public_seven seed outcome small =
    let whole : line_count (public_outcome seed outcome) ≡ line_count (bargain_lines (outcome + 1))
    + (line_count (drawn_leaves seed (outcome * 4)) + (line_count (second_line (outcome + 1))
    + (line_count (drawn_leaves seed (outcome * 4 + 2)) + 0))) =
    added_lines (bargain_lines (outcome + 1)) (drawn_leaves seed (outcome * 4) ∷ second_line (outcome + 1)
    ∷ drawn_leaves seed (outcome * 4 + 2) ∷ []) in
    omega (
      arith,
      whole,
      bargain_two (outcome + 1) (omega (arith, small)),
      second_one (outcome + 1) (omega (arith, small)),
      two_drawn_lines seed (outcome * 4) (omega (arith, small)),
      two_drawn_lines seed (outcome * 4 + 2) (omega (arith, small)),
    )

dilemma_seven : (outcome : ℕ) → outcome < 64 → line_count (dilemma_outcome outcome) ≡ 7
unfolding dilemma_outcome
dilemma_seven outcome small =
    let whole : line_count (dilemma_outcome outcome) ≡ line_count (bargain_lines (outcome + 1))
    + (2 + (line_count (second_line (outcome + 1)) + (2 + 0))) =
    added_lines (bargain_lines (outcome + 1)) (codes "t \"\" 1 { 1 1 }\nt \"\" 2 { -1 2 }\n" ∷ second_line (outcome + 1)
    ∷ codes "t \"\" 3 { 2 -1 }\nt \"\" 4 { 0 0 }\n" ∷ []) in
    omega (arith, whole, bargain_two (outcome + 1) (omega (arith, small)), second_one (outcome + 1) (omega (arith, small)))

chain_two : (seed index : ℕ) → index < 64 → line_count (chain_move seed index) ≡ 2
unfolding chain_move move_line
chain_two seed index small =
    let halves : index / 2 ≤ index = omega arith in
    let rest : index % 2 ≤ index = omega arith in
    let move : line_count (move_line index)
    ≡ 0 + (line_count (decimal (index % 2 + 1)) + (0 + (line_count (decimal (index / 2 + 1)) + (1 + 0)))) =
    added_lines (codes "p \"\" ") (decimal (index % 2 + 1) ∷ codes " " ∷ decimal (index / 2 + 1) ∷ codes " { \"s\" \"g\" } 0\n" ∷ []) in
    omega (
      arith,
      append_lines (move_line index) (drawn_leaf seed index),
      move,
      number_lines (index % 2 + 1) (omega (arith, small, rest)),
      number_lines (index / 2 + 1) (omega (arith, small, halves)),
      drawn_lines seed index (omega (arith, small)),
    )

action_none : (n outcome : ℕ) → n < 65 → outcome < n → line_count (chance_action n outcome) ≡ 0
unfolding chance_action
action_none n outcome small less =
    let whole : line_count (chance_action n outcome) ≡ 0 + (line_count (decimal outcome) + (0 + (line_count (decimal n) + (0 + 0)))) =
    added_lines (codes "\"") (decimal outcome ∷ codes "\" 1/" ∷ decimal n ∷ codes " " ∷ []) in
    omega (arith, whole, number_lines outcome (omega (arith, small, less)), number_lines n (omega (arith, small)))

chance_one : (n : ℕ) → n < 65 → line_count (chance_line n) ≡ 1
unfolding chance_line
chance_one n small =
    let whole : line_count (chance_line n) ≡ 0 + (line_count (below_text n (chance_action n)) + (1 + 0)) =
    added_lines (codes "c \"\" 1 { ") (below_text n (chance_action n) ∷ codes "} 0\n" ∷ []) in
    omega (arith, whole, below_lines n 0 (chance_action n) (λ k less. action_none n k small less))

title_one : (kind : Kind) → line_count (title kind) ≡ 1
unfolding title kind_name
title_one Public = refl
title_one Dilemma = refl
title_one Chain = refl

node_lines : (kind : Kind) (n seed : ℕ) → n ≤ greatest kind → line_count (game_lines kind n seed) ≡ node_count kind n
unfolding game_lines node_count greatest chain_moves
node_lines Public n seed within =
    omega (
      arith,
      append_lines (chance_line n) (below_text n (public_outcome seed)),
      chance_one n (omega (arith, within)),
      below_lines n 7 (public_outcome seed) (λ k less. public_seven seed k (omega (arith, less, within))),
    )
node_lines Dilemma n seed within =
    omega (
      arith,
      append_lines (chance_line n) (below_text n dilemma_outcome),
      chance_one n (omega (arith, within)),
      below_lines n 7 dilemma_outcome (λ k less. dilemma_seven k (omega (arith, less, within))),
    )
node_lines Chain n seed within =
    omega (
      arith,
      append_lines (below_text n (chain_move seed)) (drawn_leaf seed n),
      drawn_lines seed n (omega (arith, within)),
      below_lines n 2 (chain_move seed) (λ k less. chain_two seed k (omega (arith, less, within))),
    )

pub lines_are_nodes : (kind : Kind) (n seed : ℕ) → n ≤ greatest kind
    → length (filter (λ (byte : ℕ). byte == 10) (game_text kind n seed)) ≡ node_count kind n + 1
unfolding game_text
lines_are_nodes kind n seed within =
    omega (arith, append_lines (title kind) (game_lines kind n seed), title_one kind, node_lines kind n seed within)
