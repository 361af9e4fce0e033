use Rattle.plans.proofs.Means.{means_lawful, mean_up_least, mean_down_greatest}
use Rattle.plans.proofs.Blended.{blend_within}
use Rattle.plans.proofs.laws_of_blends.Goals as goal

pub returns-clause-means_lawful : goal.returns-clause-means_lawful
returns-clause-means_lawful c = means_lawful

pub returns-clause-mean_up_least : goal.returns-clause-mean_up_least
returns-clause-mean_up_least c = mean_up_least

pub returns-clause-mean_down_greatest : goal.returns-clause-mean_down_greatest
returns-clause-mean_down_greatest c = mean_down_greatest

pub returns-clause-blend_within : goal.returns-clause-blend_within
returns-clause-blend_within c = blend_within
