-- The game that is made is scaled: its scales, read by player, are those that were found.
use Rattle.std.proofs.Common.{◌≡◌, ℤ, List, refl, sym, subst}
use Rattle.std.specs.Prelude.{map}
use Rattle.corr_game.specs.declared.nodes.Node.{Node}
use Rattle.corr_game.specs.declared.nodes.SetInfo.{SetInfo}
use Rattle.corr_game.specs.declared.sides.Side.{Side}
use Rattle.corr_game.specs.declared.sides.Side.TheVariants.{One, Two}
use Rattle.corr_game.specs.Game.{GameView, scale_of}
use Rattle.efg_reader.specs.RawGame.{RawGameView, bare_nodes}
use Rattle.game_scale.specs.declared.scales.Scales.{Scales}
use Rattle.game_scale.specs.Amounts.{AreScaledNodes, scale_in}
use Rattle.game_scale.specs.Paths.{PathView, ArePaths}
use Rattle.game_scale.specs.Scaled.{IsScaled}
use Rattle.game_scale.specs.Scales.{AreScales}
use Rattle.game_scale.specs.Tree.{without_pay}

abbrev game_with : List Node → List SetInfo → List SetInfo → Scales → GameView
game_with nodes one two scales = record { nodes = nodes; one = one; two = two; scale_one = scales.one; scale_two = scales.two }

same_scale : (nodes : List Node) (one two : List SetInfo) (scales : Scales) (side : Side) → scale_in scales side ≡ scale_of side (game_with nodes one two scales)
same_scale nodes one two scales One = refl
same_scale nodes one two scales Two = refl

pub scaled : (raw : RawGameView) (paths : List PathView) (nodes : List Node) (one two : List SetInfo) (scales : Scales) (g : GameView)
    → g ≡ record { nodes = nodes; one = one; two = two; scale_one = scales.one; scale_two = scales.two }
    → ArePaths raw paths → map without_pay nodes ≡ bare_nodes raw.nodes → one ≡ raw.one → two ≡ raw.two
    → AreScales raw.nodes paths (scale_in scales) → AreScaledNodes (scale_in scales) raw.nodes paths nodes → IsScaled raw g
scaled raw paths nodes one two scales g made reached tree same_one same_two are each =
    let same : scale_in scales ≡ (λ (side : Side). scale_of side (game_with nodes one two scales)) = λ i side. same_scale nodes one two scales side i in
    subst (λ (h : GameView). IsScaled raw h) (sym made) (record {
      paths = paths;
      reached = reached;
      tree = record { nodes = tree; one = same_one; two = same_two };
      scales = subst (λ (f : Side → ℤ). AreScales raw.nodes paths f) same are;
      nodes = subst (λ (f : Side → ℤ). AreScaledNodes f raw.nodes paths nodes) same each;
    })
