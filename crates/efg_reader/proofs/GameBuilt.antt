-- The nodes and sets that the program keeps make the game that the lines say.
use Rattle.std.proofs.Common.{◌≡◌, ℕ, ◌+◌, Bool, true, false, cond, List, [], ◌∷◌, Some, None, length, map, take, drop, refl, ap, sym, ◌∙◌}
use Rattle.std.specs.Prelude.{Result, Ok, Err, IfOk}
use Rattle.std.proofs.lemmas.List.{length-map}
use Rattle.corr_game.specs.declared.nodes.SetInfo.{SetInfo}
use Rattle.efg_lines.specs.File.{FileView}
use Rattle.efg_lines.specs.declared.node_line.ActLine.{ActLine}
use Rattle.efg_lines.specs.declared.refusal.FileRefusal.{FileRefusal}
use Rattle.efg_reader.specs.declared.builder.Builder.{Builder}
use Rattle.efg_reader.specs.declared.events.Bare.{Bare}
use Rattle.efg_reader.specs.declared.first_lists.FirstList.{FirstList}
use Rattle.efg_reader.specs.declared.raw_game.RawNode.{RawNode}
use Rattle.efg_reader.specs.Assembly.{assembled, node_with}
use Rattle.efg_reader.specs.FileGame.{game_of, node_at, nodes_from, set_info, IsGameOf}
use Rattle.efg_reader.specs.FirstRefusal.{file_lines, last_line}
use Rattle.efg_reader.specs.Lists.{entry_in}
use Rattle.efg_reader.specs.RawGame.{RawGameView}
use Rattle.efg_reader.specs.Rules.{Refuses}
use Rattle.efg_reader.specs.Sets.{info_of}
use Rattle.efg_reader.specs.Taken.{built_game, HasTaken}
use Rattle.efg_reader.specs.Told.{Told}
use Rattle.efg_reader.specs.TreeSoFar.{is_closed, kid_count}

head_same : {A : Type 0} (x y : A) (xs ys : List A) → x ∷ xs ≡ y ∷ ys → x ≡ y
head_same x y xs ys same = cc

tail_same : {A : Type 0} (x y : A) (xs ys : List A) → x ∷ xs ≡ y ∷ ys → xs ≡ ys
tail_same x y xs ys same = cc

pub assembled_is : (lines : List Told) (at : ℕ) (bares : List Bare) (ts : List Told) → map node_with bares ≡ map (node_at lines) ts → map (λ (bare : Bare). bare.kids) bares ≡ map (kid_count lines) ts → assembled at bares ≡ nodes_from lines at ts
unfolding assembled nodes_from
assembled_is lines at [] [] nodes kids = refl
assembled_is lines at [] (t ∷ ts) nodes kids = absurd (cc)
assembled_is lines at (bare ∷ bares) [] nodes kids = absurd (cc)
assembled_is lines at (bare ∷ bares) (t ∷ ts) nodes kids =
    let node = head_same (node_with bare) (node_at lines t) (map node_with bares) (map (node_at lines) ts) nodes in
    let count = head_same bare.kids (kid_count lines t) (map (λ (b : Bare). b.kids) bares) (map (kid_count lines) ts) kids in
    let behind = assembled_is lines (at + 1) bares ts (tail_same (node_with bare) (node_at lines t) (map node_with bares) (map (node_at lines) ts) nodes)
    (tail_same bare.kids (kid_count lines t) (map (λ (b : Bare). b.kids) bares) (map (kid_count lines) ts) kids) in
    λ i. (node i (take (count i) (behind i).1) ∷ (behind i).0, at ∷ drop (count i) (behind i).1)

info : ℕ → ℕ → SetInfo
info file actions = record { file = file; actions = actions }

infos_are : (lists : List (ℕ × FirstList)) → map info_of lists ≡ map set_info (map entry_in lists)
unfolding info
infos_are [] = refl
infos_are (entry ∷ lists) =
    let actions : length entry.1.acts.now ≡ length (map (λ (act : ActLine). act.name) entry.1.acts.now) = sym (length-map entry.1.acts.now (λ (act : ActLine). act.name)) in
    λ i. info entry.0 (actions i) ∷ infos_are lists i

game_with : List RawNode → List SetInfo → List SetInfo → RawGameView
game_with nodes one two = record { nodes = nodes; one = one; two = two }

pub built_is : (builder : Builder) (lines : List Told) → HasTaken builder lines → built_game builder ≡ game_of lines
unfolding game_with
built_is builder lines taken =
    let nodes = assembled_is lines 0 builder.nodes.items lines taken.nodes_are taken.kids in
    let one = infos_are builder.one.entries ∙ ap (map set_info) taken.sets_of_one in
    let two = infos_are builder.two.entries ∙ ap (map set_info) taken.sets_of_two in
    λ i. game_with (nodes i).0 (one i) (two i)

closed_from : (closed : Bool) (refusal : FileRefusal) → cond closed None (Some refusal) ≡ None → closed ≡ true
closed_from true refusal is = refl
closed_from false refusal is = absurd (cc)

-- the answer behind the last line
pub game_answer : (answer : Result RawGameView FileRefusal) (file : FileView) (lines : List Told) (game : RawGameView) (closed : Bool) (refusal : FileRefusal) → Refuses answer (cond closed None (Some refusal))
    → closed ≡ is_closed lines → file_lines file ≡ last_line lines → IfOk answer (λ it. it ≡ game) → game ≡ game_of lines → IfOk answer (IsGameOf file)
game_answer (Err e) file lines game closed refusal rule same are made is = tt
game_answer (Ok it) file lines game closed refusal rule same are made is = record {
  lines = lines;
  are_lines = are ∙ rw (sym same ∙ closed_from closed refusal rule) refl;
  game_is = made ∙ is;
}
