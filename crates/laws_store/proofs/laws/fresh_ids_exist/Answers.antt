-- A search over the IDs after the seed finds the fresh one, and no two are fresh.
use Rattle.laws_store.proofs.Fresh.{one_fresh, fresh_fits, fresh_once}
use Rattle.laws_store.proofs.laws.fresh_ids_exist.Goals as goal

pub returns : goal.returns
returns c ids seed most few =
    let found = one_fresh ids seed most few in
    let fits = fresh_fits ids seed found.0 most found.1 in
    record {
      id = found.0;
      fresh = found.1;
      some = fits.0;
      fits = fits.1;
      free = fits.2;
      once = λ other fresh. fresh_once ids seed other found.0 fresh found.1;
    }
