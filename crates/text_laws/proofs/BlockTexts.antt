-- Texts of blocks: one behind the other, and which of them name a block that is too wide.
use Rattle.std.proofs.Common.{◌≡◌, ◌↔◌, ℕ, ◌+◌, ◌<◌, false, List, [], ◌∷◌, ◌++◌, length, refl, sym, ap, ◌∙◌, append_assoc, arith}
use Rattle.std.proofs.lemmas.List.{length-map}
use Rattle.std.proofs.lemmas.List.Elements.{All-cons, All-head, All-nil, All-tail}
use Rattle.answer_text.specs.SummaryText.{corner_summary, node_count, polygon_summary}
use Rattle.answer_text.specs.VerdictText.{name_if_wide, wide_name}
use Rattle.cert_check.specs.Certified.{NoneTooWide, is_too_wide}
use Rattle.corr_game.specs.declared.notions.Notion.{Notion}
use Rattle.game_gen.specs.declared.kinds.Kind.{Kind}
use Rattle.game_gen.specs.declared.kinds.Kind.TheVariants.{Public, Dilemma, Chain}
use Rattle.plane_hull.specs.declared.sides.Point.{Point}
use Rattle.report_form.specs.declared.reports.Block.{Block}
use Rattle.report_form.specs.declared.reports.Block.TheVariants.{Found, Empty, TooWide}
use Rattle.report_form.specs.declared.reports.Corner.{Corner}
use Rattle.report_form.specs.declared.reports.NamedBlock.{NamedBlock}
use Rattle.report_form.specs.Points.{points_of}
use Rattle.report_text.specs.Joined.{each_text, texts_from}
use Rattle.report_text.specs.ReportText.{named_block_text}

-- texts that bear no number are the same from each number on
later_texts : {X : Type 0} (text : X → List ℕ) (j k : ℕ) (xs : List X)
    → texts_from (λ n. text) j xs ≡ texts_from (λ n. text) k xs
later_texts text j k [] = refl
later_texts text j k (x ∷ xs) = ap (λ (rest : List ℕ). text x ++ rest) (later_texts text (j + 1) (k + 1) xs)

texts_joined : {X : Type 0} (text : X → List ℕ) (k : ℕ) (xs ys : List X)
    → texts_from (λ n. text) k (xs ++ ys) ≡ texts_from (λ n. text) k xs ++ each_text text ys
texts_joined text k [] ys = later_texts text k 0 ys
texts_joined text k (x ∷ xs) ys =
    ap (λ (rest : List ℕ). text x ++ rest) (texts_joined text (k + 1) xs ys)
    ∙ sym (append_assoc (text x) (texts_from (λ n. text) (k + 1) xs) (each_text text ys))

pub block_texts_joined : (xs ys : List NamedBlock)
    → each_text named_block_text (xs ++ ys) ≡ each_text named_block_text xs ++ each_text named_block_text ys
block_texts_joined xs ys = texts_joined named_block_text 0 xs ys

name_of_narrow : (notion : Notion) (block : Block) → name_if_wide notion block ≡ [] ↔ (is_too_wide block ≡ false)
unfolding name_if_wide
name_of_narrow notion (Found corners sides) = (λ e. refl, λ e. refl)
name_of_narrow notion (Empty multipliers) = (λ e. refl, λ e. refl)
name_of_narrow notion (TooWide basis place) = (λ e. absurd (cc e), λ e. absurd (cc e))

empty_parts : (xs ys : List ℕ) → xs ++ ys ≡ [] → (xs ≡ []) × (ys ≡ [])
empty_parts [] ys e = (refl, e)
empty_parts (x ∷ xs) ys e = absurd (cc e)

none_from : (k : ℕ) (blocks : List NamedBlock) → texts_from (λ n. wide_name) k blocks ≡ [] → NoneTooWide blocks
none_from k [] e = All-nil (λ (named : NamedBlock). is_too_wide named.block ≡ false)
none_from k (named ∷ rest) e =
    let parts = empty_parts (wide_name named) (texts_from (λ n. wide_name) (k + 1) rest) e in
    All-cons (λ (it : NamedBlock). is_too_wide it.block ≡ false) named rest ((name_of_narrow named.notion named.block).0 parts.0)
    (none_from (k + 1) rest parts.1)

from_none : (k : ℕ) (blocks : List NamedBlock) → NoneTooWide blocks → texts_from (λ n. wide_name) k blocks ≡ []
from_none k [] none = refl
from_none k (named ∷ rest) none =
    let first = (name_of_narrow named.notion named.block).1
    (All-head (λ (it : NamedBlock). is_too_wide it.block ≡ false) named rest none) in
    let others = from_none (k + 1) rest (All-tail (λ (it : NamedBlock). is_too_wide it.block ≡ false) named rest none) in
    rw (first, others) refl

pub names_where_wide : (blocks : List NamedBlock) → each_text wide_name blocks ≡ [] ↔ NoneTooWide blocks
names_where_wide blocks = (none_from 0 blocks, from_none 0 blocks)

points_texts : (k : ℕ) (a b : List Corner) → points_of a ≡ points_of b
    → texts_from (λ n. corner_summary) k a ≡ texts_from (λ n. corner_summary) k b
unfolding corner_summary
points_texts k [] [] e = refl
points_texts k [] (y ∷ ys) e = absurd (cc e)
points_texts k (x ∷ xs) [] e = absurd (cc e)
points_texts k (x ∷ xs) (y ∷ ys) e =
    let first : x.point ≡ y.point = cc e in
    let others : points_of xs ≡ points_of ys = cc e in
    rw (first, points_texts (k + 1) xs ys others) refl

pub summaries_of_points : (a b : List Corner) → points_of a ≡ points_of b → polygon_summary a ≡ polygon_summary b
unfolding polygon_summary
summaries_of_points a b e =
    let counts : length a ≡ length b = sym (length-map a (λ (c : Corner). c.point)) ∙ ap (λ (ps : List Point). length ps) e
    ∙ length-map b (λ (c : Corner). c.point) in
    rw (counts, points_texts 0 a b e) refl

pub more_nodes : (kind : Kind) (m n : ℕ) → m < n → node_count kind m < node_count kind n
unfolding node_count
more_nodes Public m n h = omega arith
more_nodes Dilemma m n h = omega arith
more_nodes Chain m n h = omega arith

pub one_node_at_least : (kind : Kind) → node_count kind 0 ≡ 1
unfolding node_count
one_node_at_least Public = refl
one_node_at_least Dilemma = refl
one_node_at_least Chain = refl
