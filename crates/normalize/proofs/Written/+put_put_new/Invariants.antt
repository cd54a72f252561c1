-- What falls from call to call of put and put_new: the row's number.
use Prim.Native.Nat.{◌+◌, ◌*◌}
use Rattle.normalize.proofs.Written.+put_put_new.Given as goal

abbrev pub decreases-put : goal.decreases-put
decreases-put l = 2 * l.k + 1

abbrev pub decreases-put_new : goal.decreases-put_new
decreases-put_new l = 2 * l.k
