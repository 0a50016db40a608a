-- The files of generated games: two by two games behind a public chance move (Farina and Sandholm 2020, on public chance
-- moves), the prisoners' dilemma, and the centipede (Rosenthal 1981). All numbers below count from 0.
use Rattle.std.specs.Prelude.{ℕ, zero, suc, ◌+◌, ◌*◌, ◌/◌, ◌%◌, List, [], ◌++◌, codes}
use Rattle.std.specs.Fmt.{decimal}
use Rattle.game_gen.specs.Random.{draw}
use Rattle.game_gen.specs.declared.kinds.Kind.{Kind}
use Rattle.game_gen.specs.declared.kinds.Kind.TheVariants.{Public, Dilemma, Chain}

-- the greatest size of a kind
unfoldable pub greatest : Kind → ℕ
greatest Public = 64
greatest Dilemma = 64
greatest Chain = 30

unfoldable pub kind_name : Kind → List ℕ
kind_name Public = codes "public"
kind_name Dilemma = codes "dilemma"
kind_name Chain = codes "chain"

-- the texts of the numbers below n, one behind the other
unfoldable pub below_text : ℕ → (ℕ → List ℕ) → List ℕ
below_text zero text = []
below_text (suc n) text = below_text n text ++ text n

unfoldable pub title : Kind → List ℕ
title kind = codes "EFG 2 R \"" ++ kind_name kind ++ codes "\" { \"1\" \"2\" }\n"

-- an outcome of the chance move, with chance 1/n
unfoldable pub chance_action : ℕ → ℕ → List ℕ
chance_action n outcome = codes "\"" ++ decimal outcome ++ codes "\" 1/" ++ decimal n ++ codes " "

-- the public chance move, at the root
unfoldable pub chance_line : ℕ → List ℕ
chance_line n = codes "c \"\" 1 { " ++ below_text n (chance_action n) ++ codes "} 0\n"

unfoldable pub leaf_line : ℕ → ℕ → ℕ → List ℕ
leaf_line number one two = codes "t \"\" " ++ decimal number ++ codes " { " ++ decimal one ++ codes " " ++ decimal two ++ codes " }\n"

-- a leaf with an outcome of its own, whose payoffs are two draws of its own, the first player's first
unfoldable pub drawn_leaf : ℕ → ℕ → List ℕ
drawn_leaf seed leaf = leaf_line (leaf + 1) (draw seed (leaf * 2)) (draw seed (leaf * 2 + 1))

-- the move of the first player, and that of the second behind the first action
unfoldable pub bargain_lines : ℕ → List ℕ
bargain_lines set = codes "p \"\" 1 " ++ decimal set ++ codes " { \"C\" \"D\" } 0\np \"\" 2 " ++ decimal set ++ codes " { \"C\" \"D\" } 0\n"

-- the move of the second player behind the second action, in the same information set
unfoldable pub second_line : ℕ → List ℕ
second_line set = codes "p \"\" 2 " ++ decimal set ++ codes " 0\n"

-- a prisoners' dilemma
unfoldable pub dilemma_outcome : ℕ → List ℕ
dilemma_outcome outcome = bargain_lines (outcome + 1) ++ codes "t \"\" 1 { 1 1 }\nt \"\" 2 { -1 2 }\n" ++ second_line (outcome + 1)
    ++ codes "t \"\" 3 { 2 -1 }\nt \"\" 4 { 0 0 }\n"

unfoldable pub drawn_leaves : ℕ → ℕ → List ℕ
drawn_leaves seed leaf = drawn_leaf seed leaf ++ drawn_leaf seed (leaf + 1)

-- a game of two by two choices with drawn payoffs
unfoldable pub public_outcome : ℕ → ℕ → List ℕ
public_outcome seed outcome = bargain_lines (outcome + 1) ++ drawn_leaves seed (outcome * 4) ++ second_line (outcome + 1)
    ++ drawn_leaves seed (outcome * 4 + 2)

-- the players move in turn, each at the sets 1, 2 and so on
unfoldable pub move_line : ℕ → List ℕ
move_line index = codes "p \"\" " ++ decimal (index % 2 + 1) ++ codes " " ++ decimal (index / 2 + 1) ++ codes " { \"s\" \"g\" } 0\n"

-- a move, and the leaf at which the game ends where it stops there
unfoldable pub chain_move : ℕ → ℕ → List ℕ
chain_move seed index = move_line index ++ drawn_leaf seed index

-- the moves, and the leaf behind the last
unfoldable pub chain_moves : ℕ → ℕ → List ℕ
chain_moves n seed = below_text n (chain_move seed) ++ drawn_leaf seed n

-- the lines behind the title
unfoldable pub game_lines : Kind → ℕ → ℕ → List ℕ
game_lines Public n seed = chance_line n ++ below_text n (public_outcome seed)
game_lines Dilemma n seed = chance_line n ++ below_text n dilemma_outcome
game_lines Chain n seed = chain_moves n seed

unfoldable pub game_text : Kind → ℕ → ℕ → List ℕ
game_text kind n seed = title kind ++ game_lines kind n seed
