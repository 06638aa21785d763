-- `count_opposite` meets its contract: the chunks of two are the pairs, and there are fewer of them than a sum may reach.
-- Assumes nothing.
use Rattle.std.proofs.Common.{rules, tests, ◌≡◌, refl, ap, ◌∙◌, ℕ, ◌+◌, cond, map, List, [], ◌∷◌, arith}
use Rattle.std.proofs.lemmas.Iterator.{YieldsList-from_slice, YieldsList-from_map}
use Rattle.std.proofs.lemmas.Iterator.Consumers.{sum_by_from_yields_List, fits_by_from_yields_list}
use Rattle.std.proofs.lemmas.List.Sums.{count_by-le-length}
use Rattle.std.specs.Prelude.{Float, fold, count_by}
use Rattle.halves.specs.Pairs.{opposite, pair_of, count_opposite}
use Rattle.halves.proofs.TwoByTwo.{pairs_are}
use Rattle.halves.proofs.pairs.count_opposite.Goals as goal

-- a chunk adds one where its signs are opposite
abbrev adds : List Float → ℕ
adds chunk = cond (opposite (pair_of chunk)) 1 0

counted : (n : ℕ) (chunks : List (List Float)) → fold (λ a chunk. a + adds chunk) n chunks ≡ fold (λ a p. a + cond (opposite p) 1 0) n (map pair_of chunks)
counted n [] = refl
counted n (chunk ∷ rest) = counted (n + adds chunk) rest

pub sum-requires-clause-fits : goal.sum-requires-clause-fits
sum-requires-clause-fits c =
    let chunks = c.as_chunks.result.0.now in
    fits_by_from_yields_list adds chunks c.map.result _
    (YieldsList-from_map _ adds (YieldsList-from_slice chunks cc) c.map.ensures.closure (λ x r q k. search (rules, tests)))
    (omega (arith, count_by-le-length (λ chunk. opposite (pair_of chunk)) chunks, c.iter.ensures.bound))

pub returns : goal.returns
unfolding count_opposite
returns c =
    let chunks = c.as_chunks.result.0.now in
    sum_by_from_yields_List adds chunks c.map.result _ c.sum.ensures.ran
    (YieldsList-from_map _ adds (YieldsList-from_slice chunks cc) c.map.ensures.closure (λ x r q k. search (rules, tests)))
    ∙ counted 0 chunks
    ∙ ap (λ (ps : List (List Float)). count_by opposite (map pair_of ps)) c.as_chunks.ensures.front
    ∙ ap (count_by opposite) (pairs_are c.args.readings.now)
