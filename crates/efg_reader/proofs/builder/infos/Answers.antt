-- The set with the next index follows those of the first entries.
use Rattle.std.proofs.Common.{List, ◌++◌, ◌∷◌, [], map, take, ap, sym, ◌∙◌, arith}
use Rattle.std.proofs.lemmas.List.{take_more}
use Rattle.std.proofs.lemmas.Option.{slice_get_within, get_or_from_slice_get}
use Rattle.corr_game.specs.declared.nodes.SetInfo.{SetInfo}
use Rattle.efg_reader.specs.Sets.{info_of}
use Rattle.efg_reader.proofs.builder.infos.Goals as goal

pub loop-index-preserved : goal.loop-index-preserved
loop-index-preserved c =
    let all = map info_of c.args.lists.now.entries in
    let at = c.loop-index.index in
    let info = c.info_at.result in
    let within = slice_get_within all at info c.info_at.ensures in
    let next = get_or_from_slice_get all at info info c.info_at.ensures in
    record {
      count = omega (arith, c.in_ok-push.ensures.len, c.loop-index.invariant.count);
      each =
          c.in_ok-push.ensures.items ∙ ap (λ (xs : List SetInfo). xs ++ info ∷ []) c.loop-index.invariant.each
          ∙ ap (λ (x : SetInfo). take at all ++ x ∷ []) (sym next)
          ∙ sym (take_more all at info within);
    }
