mod TalliedRuns
