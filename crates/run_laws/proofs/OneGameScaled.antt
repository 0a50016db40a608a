-- Bytes have one game with whole amounts at most, or one refusal of its scales, and not both.
use Rattle.std.proofs.Common.{◌≡◌, ℕ, List, Some, None, ap, subst}
use Rattle.corr_game.specs.Game.{GameView}
use Rattle.efg_reader.specs.RawGame.{RawGameView}
use Rattle.game_scale.specs.declared.refusal.ScaleRefusal.{ScaleRefusal}
use Rattle.game_scale.specs.declared.refusal.ScaleRefusal.TheVariants.{NoMemory}
use Rattle.game_scale.specs.Scaled.{IsRefused, IsScaled}
use Rattle.game_scale.proofs.OneScaleRefusal.{refused_once, scaled_not_refused}
use Rattle.game_scale.proofs.OneScaling.{file_scaling_once}
use Rattle.report_form.specs.declared.refusals.Refusal.{Refusal}
use Rattle.corr_run.specs.FirstRefusal.{IsOfScales}
use Rattle.corr_run.specs.GameOfFile.{SayGame, SayScaled}
use Rattle.corr_run.specs.Refusals.{scale_refusal}
use Rattle.run_laws.proofs.OneFileRefused.{one_game}

-- want of memory has no refusal's name
named : (beyond : ScaleRefusal) (refusal : Refusal) → scale_refusal beyond ≡ Some refusal → beyond ≡ NoMemory → ⊥
named beyond refusal is none =
    let same : scale_refusal beyond ≡ None = ap (λ (r : ScaleRefusal). scale_refusal r) none in
    absurd (cc (is, same))

pub one_scaled : (bytes : List ℕ) (a b : GameView) → SayScaled bytes a → SayScaled bytes b → a ≡ b
one_scaled bytes a b x y =
    let scaled = subst (λ (r : RawGameView). IsScaled r b) (one_game bytes y.raw x.raw y.say x.say) y.scaled in
    file_scaling_once x.say.file x.raw a b x.say.said x.scaled scaled

pub no_scales_refusal : (bytes : List ℕ) (g : GameView) (raw : RawGameView) (refusal : Refusal) → SayScaled bytes g
    → SayGame bytes raw → IsOfScales raw refusal → ⊥
no_scales_refusal bytes g raw refusal x say of =
    let scaled = subst (λ (r : RawGameView). IsScaled r g) (one_game bytes x.raw raw x.say say) x.scaled in
    named of.beyond refusal of.named (scaled_not_refused say.file raw g of.beyond say.said scaled of.first)

pub one_scales_refusal : (bytes : List ℕ) (raw other : RawGameView) (a b : Refusal) → SayGame bytes raw → IsOfScales raw a
    → SayGame bytes other → IsOfScales other b → a ≡ b
one_scales_refusal bytes raw other a b say of more too =
    let first = subst (λ (r : RawGameView). IsRefused r too.beyond) (one_game bytes other raw more say) too.first in
    let same = refused_once say.file raw of.beyond too.beyond say.said
    (named of.beyond a of.named) (named too.beyond b too.named) of.first first in
    let names : scale_refusal of.beyond ≡ scale_refusal too.beyond = ap (λ (r : ScaleRefusal). scale_refusal r) same in
    cc (of.named, too.named, names)
